use Rattle.std.proofs.Common.{rules, ◌≡◌, ◌≢◌, ℕ, Ok, Some, None, subst}
use Rattle.std.specs.Prelude.{Option, Result}
use Rattle.cs_refusal.specs.declared.refusals.Refusal.{Refusal as Code}
use Rattle.cs_refusal.specs.declared.refusals.Refusal.TheVariants as code
use Rattle.cs_frame.specs.declared.identifiers.ShardId.{ShardId}
use Rattle.cs_core.specs.declared.events.Event.TheVariants as asked
use Rattle.cs_core.specs.Puts.{MeansTheSame}
use Rattle.cs_core.specs.Reads.{MoveAnswers}
use Rattle.cs_core.specs.Stored.{but_for_room}
use Rattle.cs_core.specs.Writebacks.{Stages}
use Rattle.cs_core.proofs.Answering.{end_refused_so, end_so, if_refused_so, issue_refused_so, issue_so, move_none_so, move_so, ok_of, refused_alone}
use Rattle.cs_core.proofs.ServeSteps.{end_refused, end_served, if_refused, issue_refused, issue_served, move_refused, moved_served, none_live_served}
use Rattle.cs_core.proofs.Unlimited.{always_sound, if_refused_sound, if_refused_unlimited, other_than_full}
use Rattle.cs_core.proofs.stores.Store.serve_device.Goals as goal

pub returns-in-Ok : goal.returns-in-Ok
returns-in-Ok g c =
    let disk = g.D.PageDisk.state c.args.disk.now in
    let after = g.D.PageDisk.state c.issue.new.disk in
    let answered = issue_so (but_for_room c.args.self.now) (but_for_room c.issue.new.self) c.in-Ok.x c.in-Ok.p c.in-Ok.ensures.issued in
    let step = λ (honest : g.D.PageDisk.honest c.args.disk.now). issue_served c.args.self.now c.issue.new.self disk after c.in-Ok.x c.in-Ok.p (c.in-Ok.ensures.step c.requires.running honest) in
    let taken = c.issue.ensures.taken c.requires.running in
    search rules

pub returns-in-Err : goal.returns-in-Err
returns-in-Err g c =
    let disk = g.D.PageDisk.state c.args.disk.now in
    let after = g.D.PageDisk.state c.issue.new.disk in
    let answered = λ (known : c.in-Err.refusal ≢ code.OutOfMemory). issue_refused_so (but_for_room c.args.self.now) (but_for_room c.issue.new.self) c.in-Err.refusal c.in-Err.ensures.refusals known c.in-Err.ensures.issued in
    let step = λ (honest : g.D.PageDisk.honest c.args.disk.now) (known : c.in-Err.refusal ≢ code.OutOfMemory). issue_refused c.args.self.now c.issue.new.self disk after c.in-Err.refusal (c.in-Err.ensures.step c.requires.running honest) known in
    let taken = c.issue.ensures.taken c.requires.running in
    let unlimited = if_refused_unlimited c.in-Err.refusal c.refused.result c.refused.ensures (other_than_full asked.Issue c.in-Err.refusal (λ no. no) c.in-Err.ensures.refusals) in
    let issued = λ (sound : g.D.PageDisk.sound c.args.disk.now). if_refused_sound c.in-Err.refusal (g.D.PageDisk.sound c.issue.new.disk) c.refused.result c.refused.ensures (c.in-Err.ensures.sound sound) in
    search (rules, if_refused_so, if_refused)

pub returns-in-Ok-end : goal.returns-in-Ok-end
returns-in-Ok-end g c =
    let disk = g.D.PageDisk.state c.args.disk.now in
    let after = g.D.PageDisk.state c.end.new.disk in
    let answered = end_so (but_for_room c.args.self.now) (but_for_room c.end.new.self) c.in-Ok-end.n c.in-Ok-end.ensures.ended in
    let step = λ (honest : g.D.PageDisk.honest c.args.disk.now). end_served c.args.self.now c.end.new.self disk after c.in-Ok-end.n (c.in-Ok-end.ensures.step c.requires.running honest) in
    search rules

pub returns-in-Err-end : goal.returns-in-Err-end
returns-in-Err-end g c =
    let disk = g.D.PageDisk.state c.args.disk.now in
    let after = g.D.PageDisk.state c.end.new.disk in
    let answered = λ (known : c.in-Err-end.refusal ≢ code.OutOfMemory). end_refused_so (but_for_room c.args.self.now) (but_for_room c.end.new.self) c.in-Err-end.refusal c.in-Err-end.ensures.refusals known c.in-Err-end.ensures.ended in
    let step = λ (honest : g.D.PageDisk.honest c.args.disk.now) (known : c.in-Err-end.refusal ≢ code.OutOfMemory). end_refused c.args.self.now c.end.new.self disk after c.in-Err-end.refusal (c.in-Err-end.ensures.step c.requires.running honest) known in
    let unlimited = if_refused_unlimited c.in-Err-end.refusal c.refused-in-Err-end.result c.refused-in-Err-end.ensures (other_than_full asked.End c.in-Err-end.refusal (λ no. no) c.in-Err-end.ensures.refusals) in
    let issued = λ (sound : g.D.PageDisk.sound c.args.disk.now). always_sound (g.D.PageDisk.sound c.end.new.disk) c.refused-in-Err-end.result (c.end.ensures.sound sound).0 in
    search (rules, if_refused_so, if_refused)

pub returns-in-Ok-Some : goal.returns-in-Ok-Some
returns-in-Ok-Some g c =
    let disk = g.D.PageDisk.state c.args.disk.now in
    let after = g.D.PageDisk.state c.move_one.new.disk in
    let is_ : c.move_one.result ≡ Ok (Some (c.in-Ok-Some.id, c.in-Ok-Some.chunk)) = search rules in
    let answered = move_so (but_for_room c.args.self.now) (but_for_room c.move_one.new.self) c.in-MoveOne.e c.in-Ok-Some.id c.in-Ok-Some.chunk c.move_one.ensures.round (ok_of (Stages (but_for_room c.args.self.now) (but_for_room c.move_one.new.self)) c.move_one.result (Some (c.in-Ok-Some.id, c.in-Ok-Some.chunk)) is_ c.move_one.ensures.behind)
    (ok_of (MeansTheSame (but_for_room c.args.self.now).index (but_for_room c.move_one.new.self).index) c.move_one.result (Some (c.in-Ok-Some.id, c.in-Ok-Some.chunk)) is_ c.move_one.ensures.meaning) in
    let step = λ (honest : g.D.PageDisk.honest c.args.disk.now). moved_served c.args.self.now c.move_one.new.self disk after c.in-MoveOne.e (c.in-Ok-Some.id, c.in-Ok-Some.chunk) (c.move_one.ensures.disk.same honest)
    (subst (λ (r : Result (Option (ShardId × ℕ)) Code). MoveAnswers c.args.self.now disk c.in-MoveOne.e r c.move_one.new.self) is_ (c.move_one.ensures.step c.requires.running honest)) in
    search rules

pub returns-in-Ok-None : goal.returns-in-Ok-None
returns-in-Ok-None g c =
    let disk = g.D.PageDisk.state c.args.disk.now in
    let after = g.D.PageDisk.state c.move_one.new.disk in
    let is_ : c.move_one.result ≡ Ok None = search rules in
    let answered = move_none_so (but_for_room c.args.self.now) (but_for_room c.move_one.new.self) c.in-MoveOne.e (c.move_one.ensures.none is_) in
    let step = λ (honest : g.D.PageDisk.honest c.args.disk.now). none_live_served c.args.self.now c.move_one.new.self disk after c.in-MoveOne.e (c.move_one.ensures.disk.same honest)
    (subst (λ (r : Result (Option (ShardId × ℕ)) Code). MoveAnswers c.args.self.now disk c.in-MoveOne.e r c.move_one.new.self) is_ (c.move_one.ensures.step c.requires.running honest)) in
    search rules

pub returns-in-Err-move_one : goal.returns-in-Err-move_one
returns-in-Err-move_one g c =
    let disk = g.D.PageDisk.state c.args.disk.now in
    let after = g.D.PageDisk.state c.move_one.new.disk in
    let answered = λ (known : c.in-Err-move_one.refusal ≢ code.OutOfMemory). refused_alone (but_for_room c.args.self.now) (but_for_room c.move_one.new.self) (asked.MoveOne c.in-MoveOne.e) tt c.in-Err-move_one.refusal c.in-Err-move_one.ensures.refusals known c.in-Err-move_one.ensures.refused in
    let step = λ (honest : g.D.PageDisk.honest c.args.disk.now) (known : c.in-Err-move_one.refusal ≢ code.OutOfMemory). move_refused c.args.self.now c.move_one.new.self disk after c.in-MoveOne.e c.in-Err-move_one.refusal (c.move_one.ensures.disk.same honest) (c.in-Err-move_one.ensures.step c.requires.running honest) known in
    let unlimited = if_refused_unlimited c.in-Err-move_one.refusal c.refused-in-Err-move_one.result c.refused-in-Err-move_one.ensures c.in-Err-move_one.ensures.unlimited in
    let issued = λ (sound : g.D.PageDisk.sound c.args.disk.now). always_sound (g.D.PageDisk.sound c.move_one.new.disk) c.refused-in-Err-move_one.result (c.move_one.ensures.disk.sound sound).0 in
    search (rules, if_refused_so, if_refused)
