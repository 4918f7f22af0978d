use Rattle.cs_deps.specs.View.{pending_of}
use Rattle.cs_check.proofs.Spelling.{SpelledTo}
use Rattle.cs_check.proofs.spelled.spelled.Given as goal

abbrev pub invariant-loop-i : goal.invariant-loop-i
invariant-loop-i l = SpelledTo (pending_of l.view) l.needs l.i l.after l.elements.items
