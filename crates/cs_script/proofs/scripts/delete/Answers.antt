use Rattle.std.proofs.Common.{inl, inr, refl}
use Rattle.cs_writeback.specs.cs_core.declared.events.Event.TheVariants.{Delete}
use Rattle.cs_writeback.specs.cs_core.declared.events.Reply.TheVariants.{Absent, Accepted}
use Rattle.cs_script.specs.Lines.{says_delete}
use Rattle.cs_script.specs.Outputs.{absent_line, delete_line}
use Rattle.cs_script.specs.Scripts.{AnswersSo}
use Rattle.cs_script.proofs.OneLine.{is_given, is_refused}
use Rattle.cs_writeback.proofs.Histories.{went_as}
use Rattle.cs_script.proofs.scripts.delete.Goals as goal

pub returns-in-Ok-Accepted : goal.returns-in-Ok-Accepted
returns-in-Ok-Accepted g c =
    let old = c.args.core.now in
    let new = c.ask.new.core in
    is_given c.print_delete.result c.given.result (g.W.Write.contents c.args.writer.now) (g.W.Write.contents c.print_delete.new.writer) (delete_line c.in-Ok-Accepted.number) (λ answer. AnswersSo g.D.PageDisk (says_delete c.args.id) answer old new)
    (inl (c.in-Ok-Accepted.number, (went_as g.D.PageDisk old new (Delete (record { 0 = c.args.id })) (Delete (record { 0 = c.args.id })) c.in-Ok-Accepted.field-0 (Accepted c.in-Ok-Accepted.number) refl c.in-Ok-Accepted.field-0-is c.in-Ok-Accepted.ensures.done, refl))) c.given.ensures c.print_delete.ensures

pub returns-in-Ok-Absent : goal.returns-in-Ok-Absent
returns-in-Ok-Absent g c =
    let old = c.args.core.now in
    let new = c.ask.new.core in
    is_given c.print_absent.result c.given-in-Ok-Absent.result (g.W.Write.contents c.args.writer.now) (g.W.Write.contents c.print_absent.new.writer) (absent_line) (λ answer. AnswersSo g.D.PageDisk (says_delete c.args.id) answer old new)
    (inr (went_as g.D.PageDisk old new (Delete (record { 0 = c.args.id })) (Delete (record { 0 = c.args.id })) c.in-Ok-Absent.field-0 Absent refl c.in-Ok-Absent.field-0-is c.in-Ok-Absent.ensures.done, refl)) c.given-in-Ok-Absent.ensures c.print_absent.ensures

pub returns : goal.returns
returns g c =
    let old = c.args.core.now in
    let new = c.ask.new.core in
    is_refused c.in-Err.refusal c.print_refused.result (g.W.Write.contents c.args.writer.now) (g.W.Write.contents c.print_refused.new.writer) (λ answer. AnswersSo g.D.PageDisk (says_delete c.args.id) answer old new)
    (c.in-Err.ensures.refused, refl) c.print_refused.ensures
