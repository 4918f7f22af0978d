use Rattle.std.proofs.Common.{refl}
use Rattle.cs_writeback.specs.cs_core.declared.events.Event.TheVariants.{Put}
use Rattle.cs_writeback.specs.cs_core.declared.events.Reply.TheVariants.{Accepted}
use Rattle.cs_script.specs.Lines.{says_put}
use Rattle.cs_script.specs.Outputs.{put_line}
use Rattle.cs_script.specs.Scripts.{AnswersSo}
use Rattle.cs_script.proofs.OneLine.{is_given, is_refused}
use Rattle.cs_writeback.proofs.Histories.{stopped_as, went_as}
use Rattle.cs_script.proofs.scripts.put_bytes.Goals as goal

pub returns-in-Ok-Accepted : goal.returns-in-Ok-Accepted
returns-in-Ok-Accepted g c =
    let old = c.args.core.now in
    let new = c.ask.new.core in
    is_given c.print_put.result c.given.result (g.W.Write.contents c.args.writer.now) (g.W.Write.contents c.print_put.new.writer) (put_line c.in-Ok-Accepted.number) (λ answer. AnswersSo g.D.PageDisk (says_put c.args.id c.args.bytes) answer old new)
    (c.in-Ok-Accepted.number, (went_as g.D.PageDisk old new (Put (record { 0 = c.args.id }) c.args.bytes) (Put (record { 0 = c.args.id }) c.args.bytes) c.in-Ok-Accepted.field-0 (Accepted c.in-Ok-Accepted.number) refl c.in-Ok-Accepted.field-0-is c.in-Ok-Accepted.ensures.done, refl)) c.given.ensures c.print_put.ensures

pub returns : goal.returns
returns g c =
    let old = c.args.core.now in
    let new = c.ask.new.core in
    is_refused c.in-Err.refusal c.print_refused.result (g.W.Write.contents c.args.writer.now) (g.W.Write.contents c.print_refused.new.writer) (λ answer. AnswersSo g.D.PageDisk (says_put c.args.id c.args.bytes) answer old new)
    (stopped_as g.D.PageDisk old new (Put (record { 0 = c.args.id }) c.args.bytes) (Put (record { 0 = c.args.id }) c.args.bytes) c.in-Err.refusal refl c.in-Err.ensures.refused, refl) c.print_refused.ensures
