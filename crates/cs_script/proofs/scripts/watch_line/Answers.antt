use Rattle.std.proofs.Common.{inl, inr, refl, subst}
use Rattle.cs_script.specs.Ends.{IsEnd}
use Rattle.cs_script.specs.Lines.{said_of}
use Rattle.cs_script.specs.Watched.{Hears}
use Rattle.cs_script.proofs.scripts.watch_line.Goals as goal

pub returns-in-Stop-clause-ended : goal.returns-in-Stop-clause-ended
returns-in-Stop-clause-ended g c =
    let on = c.in-Ok.ensures.on in
    let done = c.in-Ok.done in
    let hears = subst (λ o. Hears g.V.Watcher.meets c.args.watcher.now c.args.number c.args.text.now done.fault o c.hear.new.watcher) c.in-Stop.is c.hear.ensures in
    inr (on.0, inl (done.going.core, done.going.status, done.fault, on.1, hears, refl, refl), on.2)

pub returns-in-Err-Unopened-clause-ended : goal.returns-in-Err-Unopened-clause-ended
returns-in-Err-Unopened-clause-ended g c =
    let contents = g.W.Write.contents in
    let end = subst (IsEnd g.D.PageDisk g.D.CrashDisk.can_crash g.D.CrashDisk.volatile_count (said_of c.args.text.now) c.args.going.core (contents c.args.writer.now) (contents c.run_line.new.writer))
    c.in-Err-Unopened.field-0-is c.in-Err-Unopened.ensures.ended in
    inr (end.0, inr (c.in-Err-Unopened.refusal, end.1, c.met.result, c.met.ensures, refl, refl), end.2)
