use Rattle.std.proofs.Common.{ap, inl, inr, refl}
use Rattle.cs_writeback.specs.cs_core.declared.events.Event.TheVariants.{Get}
use Rattle.cs_writeback.specs.cs_core.declared.events.Reply.TheVariants.{Absent, Found}
use Rattle.cs_script.specs.Lines.{says_get}
use Rattle.cs_script.specs.Outputs.{absent_line, value_line}
use Rattle.cs_script.specs.Scripts.{AnswersSo}
use Rattle.cs_script.proofs.OneLine.{is_given, is_refused}
use Rattle.cs_writeback.proofs.Histories.{went_as}
use Rattle.cs_script.proofs.scripts.get.Goals as goal

pub returns-in-Ok-Found : goal.returns-in-Ok-Found
returns-in-Ok-Found g c =
    let old = c.args.core.now in
    let new = c.ask.new.core in
    is_given c.print_value.result c.given.result (g.W.Write.contents c.args.writer.now) (g.W.Write.contents c.print_value.new.writer) (value_line c.as_slice.result.now) (λ answer. AnswersSo g.D.PageDisk (says_get c.args.id) answer old new)
    (inl (c.in-Ok-Found.bytes, (went_as g.D.PageDisk old new (Get (record { 0 = c.args.id })) (Get (record { 0 = c.args.id })) c.in-Ok-Found.field-0 (Found c.in-Ok-Found.bytes) refl c.in-Ok-Found.field-0-is c.in-Ok-Found.ensures.done, ap value_line c.as_slice.ensures))) c.given.ensures c.print_value.ensures

pub returns-in-Ok-Absent : goal.returns-in-Ok-Absent
returns-in-Ok-Absent g c =
    let old = c.args.core.now in
    let new = c.ask.new.core in
    is_given c.print_absent.result c.given-in-Ok-Absent.result (g.W.Write.contents c.args.writer.now) (g.W.Write.contents c.print_absent.new.writer) (absent_line) (λ answer. AnswersSo g.D.PageDisk (says_get c.args.id) answer old new)
    (inr (went_as g.D.PageDisk old new (Get (record { 0 = c.args.id })) (Get (record { 0 = c.args.id })) c.in-Ok-Absent.field-0 Absent refl c.in-Ok-Absent.field-0-is c.in-Ok-Absent.ensures.done, refl)) c.given-in-Ok-Absent.ensures c.print_absent.ensures

pub returns : goal.returns
returns g c =
    let old = c.args.core.now in
    let new = c.ask.new.core in
    is_refused c.in-Err.refusal c.print_refused.result (g.W.Write.contents c.args.writer.now) (g.W.Write.contents c.print_refused.new.writer) (λ answer. AnswersSo g.D.PageDisk (says_get c.args.id) answer old new)
    (c.in-Err.ensures.refused, refl) c.print_refused.ensures
