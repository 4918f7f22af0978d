use Rattle.std.proofs.Common.{[], ℕ, List, inl, refl, subst}
use Rattle.std.specs.Prelude.{IfOk}
use Rattle.std.specs.Io.KnownBytes.{Appends}
use Rattle.cs_writeback.specs.cs_core.declared.events.Event.TheVariants.{Put}
use Rattle.cs_refusal.specs.declared.refusals.Refusal.TheVariants.{OutOfMemory}
use Rattle.cs_script.specs.Lines.{says_put}
use Rattle.cs_script.specs.Scripts.{AnswersSo}
use Rattle.cs_script.proofs.OneLine.{is_refused}
use Rattle.cs_writeback.proofs.Histories.{stays_same, stopped_unrecorded}
use Rattle.cs_script.proofs.scripts.put.Goals as goal

pub returns-in-Ok : goal.returns-in-Ok
returns-in-Ok g c =
    subst (λ (l : List ℕ). IfOk c.put_bytes.result (λ answer. (out : List ℕ) × AnswersSo g.D.PageDisk (says_put c.args.id l) answer c.args.core.now c.put_bytes.new.core out × Appends (g.W.Write.contents c.args.writer.now) (g.W.Write.contents c.put_bytes.new.writer) out))
    c.in-Ok.ensures c.put_bytes.ensures

pub returns-in-Err : goal.returns-in-Err
returns-in-Err g c =
    let old = c.args.core.now in
    is_refused OutOfMemory c.print_refused.result (g.W.Write.contents c.args.writer.now) (g.W.Write.contents c.print_refused.new.writer) (λ answer. AnswersSo g.D.PageDisk (says_put c.args.id c.args.bytes.items) answer old old)
    (stopped_unrecorded g.D.PageDisk [] old old (Put (record { 0 = c.args.id }) c.args.bytes.items) OutOfMemory (stays_same g.D.PageDisk old) (inl refl), refl) c.print_refused.ensures
