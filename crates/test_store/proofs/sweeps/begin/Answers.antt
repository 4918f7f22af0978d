use Rattle.std.proofs.Common.{true, get_or}
use Rattle.test_store.proofs.Resets.{resets_begun}
use Rattle.test_store.proofs.sweeps.begin.Goals as goal

pub invariant_of-store : goal.invariant_of-store
invariant_of-store c = record {
  staged = resets_begun c.begin.result c.args.store.now.extents c.begin.new.extents c.args.extent true (get_or c.args.store.now.graph.staging.latest 1 0) c.begin.ensures.marked c.begin.ensures.same c.args.store.now.staged;
}
