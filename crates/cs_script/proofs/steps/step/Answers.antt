use Rattle.std.proofs.Common.{ap, refl}
use Rattle.cs_writeback.specs.cs_core.declared.events.Reply.TheVariants.{Begun, Ended, Issued, Nothing}
use Rattle.cs_script.specs.Lines.{says_step}
use Rattle.cs_script.specs.Outputs.{begin_line, end_line, idle_line, issue_line}
use Rattle.cs_writeback.specs.Rounds.{step_event}
use Rattle.cs_script.specs.Scripts.{AnswersSo}
use Rattle.cs_script.proofs.OneLine.{is_given, is_refused}
use Rattle.cs_writeback.proofs.Histories.{stopped_as, went_as}
use Rattle.cs_script.proofs.steps.step.Goals as goal

pub returns-in-Ok-Issued : goal.returns-in-Ok-Issued
returns-in-Ok-Issued g c =
    let line = issue_line c.in-Ok-Issued.element c.in-Ok-Issued.page in
    is_given c.print_issue.result c.given.result (g.W.Write.contents c.args.writer.now) (g.W.Write.contents c.print_issue.new.writer) line (λ answer. AnswersSo g.D.PageDisk says_step answer c.args.core.now c.ask.new.core)
    (Issued c.in-Ok-Issued.element c.in-Ok-Issued.page, went_as g.D.PageDisk c.args.core.now c.ask.new.core c.next_event-event.result (step_event c.args.core.now.store) c.in-Ok-Issued.field-0 (Issued c.in-Ok-Issued.element c.in-Ok-Issued.page) c.next_event-event.ensures c.in-Ok-Issued.field-0-is c.in-Ok-Issued.ensures.done, refl) c.given.ensures c.print_issue.ensures

pub returns-in-Ok-Ended : goal.returns-in-Ok-Ended
returns-in-Ok-Ended g c =
    let line = end_line c.in-Ok-Ended.frontier in
    is_given c.print_end.result c.given-in-Ok-Ended.result (g.W.Write.contents c.args.writer.now) (g.W.Write.contents c.print_end.new.writer) line (λ answer. AnswersSo g.D.PageDisk says_step answer c.args.core.now c.ask.new.core)
    (Ended c.in-Ok-Ended.frontier, went_as g.D.PageDisk c.args.core.now c.ask.new.core c.next_event-event.result (step_event c.args.core.now.store) c.in-Ok-Ended.field-0 (Ended c.in-Ok-Ended.frontier) c.next_event-event.ensures c.in-Ok-Ended.field-0-is c.in-Ok-Ended.ensures.done, refl) c.given-in-Ok-Ended.ensures c.print_end.ensures

pub returns-in-Ok-Begun : goal.returns-in-Ok-Begun
returns-in-Ok-Begun g c =
    is_given c.print_begin.result c.given-in-Ok-Begun.result (g.W.Write.contents c.args.writer.now) (g.W.Write.contents c.print_begin.new.writer) (begin_line c.as_slice.result.now) (λ answer. AnswersSo g.D.PageDisk says_step answer c.args.core.now c.ask.new.core)
    (Begun c.in-Ok-Begun.round, went_as g.D.PageDisk c.args.core.now c.ask.new.core c.next_event-event.result (step_event c.args.core.now.store) c.in-Ok-Begun.field-0 (Begun c.in-Ok-Begun.round) c.next_event-event.ensures c.in-Ok-Begun.field-0-is c.in-Ok-Begun.ensures.done, ap begin_line c.as_slice.ensures) c.given-in-Ok-Begun.ensures c.print_begin.ensures

pub returns-in-Ok-Nothing : goal.returns-in-Ok-Nothing
returns-in-Ok-Nothing g c =
    let line = idle_line in
    is_given c.print_idle.result c.given-in-Ok-Nothing.result (g.W.Write.contents c.args.writer.now) (g.W.Write.contents c.print_idle.new.writer) line (λ answer. AnswersSo g.D.PageDisk says_step answer c.args.core.now c.ask.new.core)
    (Nothing, went_as g.D.PageDisk c.args.core.now c.ask.new.core c.next_event-event.result (step_event c.args.core.now.store) c.in-Ok-Nothing.field-0 (Nothing) c.next_event-event.ensures c.in-Ok-Nothing.field-0-is c.in-Ok-Nothing.ensures.done, refl) c.given-in-Ok-Nothing.ensures c.print_idle.ensures

pub returns : goal.returns
returns g c =
    let old = c.args.core.now in
    let new = c.ask.new.core in
    is_refused c.in-Err.refusal c.print_refused.result (g.W.Write.contents c.args.writer.now) (g.W.Write.contents c.print_refused.new.writer) (λ answer. AnswersSo g.D.PageDisk says_step answer old new)
    (stopped_as g.D.PageDisk old new c.next_event-event.result (step_event old.store) c.in-Err.refusal c.next_event-event.ensures c.in-Err.ensures.refused, refl) c.print_refused.ensures
