use Rattle.test_store.proofs.Places.{HaveBefore, IsThere}
use Rattle.test_store.proofs.sweeps.are_inside.Given as goal

abbrev pub invariant-loop-k : goal.invariant-loop-k
invariant-loop-k l = HaveBefore (IsThere l.extents l.pages) l.places l.k
