use Rattle.cs_deps.specs.View.{pending_of}
use Rattle.cs_check.proofs.Held.{MarksTo}
use Rattle.cs_check.proofs.earliest.mark.Given as goal

abbrev pub invariant-loop-member : goal.invariant-loop-member
invariant-loop-member l = MarksTo (pending_of l.view) l.round l.member-index l.i l.fn.firsts.items l.firsts.items
