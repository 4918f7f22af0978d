use Rattle.cs_check.specs.Progress.{StandsBelow}
use Rattle.cs_check.proofs.orders.stands_below.Given as goal

abbrev pub invariant-loop-i : goal.invariant-loop-i
invariant-loop-i l = StandsBelow l.elements l.i l.element → ⊥
