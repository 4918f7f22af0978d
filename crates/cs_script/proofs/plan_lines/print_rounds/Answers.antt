use Rattle.std.proofs.Common.{take_all, subst}
use Rattle.std.specs.Io.KnownBytes.{Appends}
use Rattle.cs_script.specs.Outputs.{round_lines}
use Rattle.cs_script.proofs.Appended.{appends_none}
use Rattle.cs_script.proofs.PlanSteps.{elements_of, one_round_more}
use Rattle.cs_script.proofs.plan_lines.print_rounds.Goals as goal

pub loop-i-init : goal.loop-i-init
loop-i-init g c = appends_none (g.W.Write.contents c.args.writer.now)

pub loop-i-preserved : goal.loop-i-preserved
loop-i-preserved g c =
    one_round_more c.args.rounds.now c.loop-i.i c.index-rounds-i.result c.deref.result.now (g.W.Write.contents c.args.writer.now) (g.W.Write.contents c.loop-i.writer) (g.W.Write.contents c.print_round.new.writer)
    c.loop-i-test.true c.index-rounds-i.is c.deref.ensures.value c.loop-i.invariant c.in_ok-print_round.ensures

pub returns : goal.returns
returns g c =
    subst (λ l. Appends (g.W.Write.contents c.args.writer.now) (g.W.Write.contents c.loop-i.writer) (round_lines 1 (elements_of l))) (take_all c.loop-i.i c.args.rounds.now c.loop-i-test.false) c.loop-i.invariant
