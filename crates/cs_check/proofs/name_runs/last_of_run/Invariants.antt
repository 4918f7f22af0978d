use Rattle.cs_check.specs.Progress.{IsRunTo, number_of}
use Rattle.cs_check.proofs.name_runs.last_of_run.Given as goal

abbrev pub invariant-loop-i : goal.invariant-loop-i
invariant-loop-i l = IsRunTo l.elements l.i (number_of l.fn.head) l.last
