use Rattle.cs_check.proofs.Permuted.{AscendTo}
use Rattle.cs_check.proofs.orders.ascends.Given as goal

abbrev pub invariant-loop-i : goal.invariant-loop-i
invariant-loop-i l = AscendTo l.elements l.i
