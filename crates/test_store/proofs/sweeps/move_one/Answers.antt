use Rattle.std.proofs.Common.{arith}
use Rattle.test_store.proofs.sweeps.move_one.Goals as goal

pub move_one-requires-clause-there : goal.move_one-requires-clause-there
move_one-requires-clause-there g c = λ id l has.
    let there = c.assert_inside.ensures id l has in
    (omega (arith, there.0, c.extent_count-extents.ensures.count), omega (arith, there.1, c.extent_pages-pages.ensures))

pub invariant_of-store : goal.invariant_of-store
invariant_of-store g c = record { staged = c.move_one.ensures.ready.resets }
