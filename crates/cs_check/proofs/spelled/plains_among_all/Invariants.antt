use Rattle.cs_deps.specs.View.{pending_of}
use Rattle.cs_check.specs.Progress.{ListsTill}
use Rattle.cs_check.proofs.spelled.plains_among_all.Given as goal

abbrev pub invariant-loop-k : goal.invariant-loop-k
invariant-loop-k l = ListsTill (pending_of l.view) l.needs l.k 0 l.elements.items
