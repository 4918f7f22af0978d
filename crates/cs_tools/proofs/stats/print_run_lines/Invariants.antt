use Rattle.cs_advice.specs.Members.{GoesOn}
use Rattle.cs_tools.proofs.stats.print_run_lines.Given as goal

abbrev pub invariant-loop-number : goal.invariant-loop-number
invariant-loop-number g l = GoesOn (g.W.Write.contents l.initial.writer) (g.W.Write.contents l.writer)
