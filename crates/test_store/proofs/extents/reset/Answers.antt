use Rattle.std.proofs.Common.{◌≤◌, arith, get_or}
use Rattle.test_store.proofs.Resets.{resets_after}
use Rattle.test_store.proofs.extents.reset.Goals as goal

pub invariant_of-store : goal.invariant_of-store
invariant_of-store g c =
    let within : c.args.root ≤ get_or c.args.store.now.graph.staging.latest 1 0 = omega (arith, c.last_version.ensures) in
    record { staged = resets_after c.reset.result c.args.store.now.extents c.reset.new.self c.args.extent c.args.root (get_or c.args.store.now.graph.staging.latest 1 0) c.reset.ensures.extents c.reset.ensures.refused within c.args.store.now.staged }
