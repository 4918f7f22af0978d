use Rattle.std.proofs.Common.{take}
use Rattle.std.specs.Io.KnownBytes.{Appends}
use Rattle.cs_script.specs.Outputs.{round_lines}
use Rattle.cs_script.proofs.PlanSteps.{elements_of}
use Rattle.cs_script.proofs.plan_lines.print_rounds.Given as goal

abbrev pub invariant-loop-i : goal.invariant-loop-i
invariant-loop-i g l = Appends (g.W.Write.contents l.initial.writer) (g.W.Write.contents l.writer) (round_lines 1 (elements_of (take l.i l.rounds)))
