use Rattle.std.proofs.Common.{refl}
use Rattle.cs_script.specs.Lines.{says_sweep}
use Rattle.cs_script.specs.Outputs.{swept_line}
use Rattle.cs_script.specs.Scripts.{AnswersSo}
use Rattle.cs_script.proofs.OneLine.{is_given, is_refused}
use Rattle.cs_script.proofs.sweep_lines.sweep.Goals as goal

pub returns-in-Ok : goal.returns-in-Ok
returns-in-Ok g c =
    let s = c.in-Ok.swept in
    let extent = c.args.extent in
    is_given c.print_swept.result c.given.result (g.W.Write.contents c.args.writer.now) (g.W.Write.contents c.print_swept.new.writer) (swept_line extent s.moved s.root) (λ answer. AnswersSo g.D.PageDisk (says_sweep extent) answer c.args.core.now c.sweep.new.core)
    (s.moved, s.root, c.in-Ok.ensures.done, refl) c.given.ensures c.print_swept.ensures

pub returns-in-Err : goal.returns-in-Err
returns-in-Err g c =
    is_refused c.in-Err.refusal c.print_refused.result (g.W.Write.contents c.args.writer.now) (g.W.Write.contents c.print_refused.new.writer) (λ answer. AnswersSo g.D.PageDisk (says_sweep c.args.extent) answer c.args.core.now c.sweep.new.core)
    (c.in-Err.ensures.refused, refl) c.print_refused.ensures
