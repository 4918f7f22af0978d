use Rattle.std.proofs.Common.{false, get_or}
use Rattle.test_store.proofs.Resets.{resets_marked}
use Rattle.test_store.proofs.sweeps.abandon.Goals as goal

pub invariant_of-store : goal.invariant_of-store
invariant_of-store g c = record {
  staged = resets_marked c.args.store.now.extents c.abandon.new.extents c.args.sweep false (get_or c.args.store.now.graph.staging.latest 1 0) c.abandon.ensures.marked c.args.store.now.staged;
}
