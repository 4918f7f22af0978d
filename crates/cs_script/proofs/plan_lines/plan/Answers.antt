use Rattle.std.proofs.Common.{refl}
use Rattle.cs_script.specs.Lines.{says_plan}
use Rattle.cs_script.specs.Scripts.{AnswersSo}
use Rattle.cs_script.proofs.OneLine.{is_refused}
use Rattle.cs_script.proofs.plan_lines.plan.Goals as goal

pub returns-in-Err : goal.returns-in-Err
returns-in-Err g c =
    is_refused c.in-Err.refusal c.print_refused.result (g.W.Write.contents c.args.writer.now) (g.W.Write.contents c.print_refused.new.writer) (λ answer. AnswersSo g.D.PageDisk says_plan answer c.args.core.now c.stage_and_plan.new.core)
    (c.in-Err.ensures.refused, refl) c.print_refused.ensures
