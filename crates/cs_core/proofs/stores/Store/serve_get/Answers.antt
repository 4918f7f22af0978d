use Rattle.std.proofs.Common.{rules, ◌≡◌, ◌≢◌, ℕ, Ok, Some, None, refl, subst}
use Rattle.std.specs.Prelude.{IfOk, IfSome, Option, Result, Vec}
use Rattle.std.specs.declared.alloc.Global.{Global}
use Rattle.cs_refusal.specs.declared.refusals.Refusal.{Refusal as Code}
use Rattle.cs_refusal.specs.declared.refusals.Refusal.TheVariants as code
use Rattle.cs_index.specs.State.{id_number}
use Rattle.cs_core.specs.declared.events.Event.TheVariants as asked
use Rattle.cs_core.specs.Lookups.{AreMeantBytes}
use Rattle.cs_core.specs.Reads.{GetAnswers}
use Rattle.cs_core.specs.Stored.{but_for_room}
use Rattle.cs_core.proofs.Answering.{get_absent_so, get_found_so, if_found_so, if_refused_so, refused_alone}
use Rattle.cs_core.proofs.Refusing.{get_refuses}
use Rattle.cs_core.proofs.ServeSteps.{absent_served, found_served, get_refused, if_found, if_refused}
use Rattle.cs_core.proofs.Unlimited.{always_sound, if_refused_unlimited, read_unlimited}
use Rattle.cs_core.proofs.stores.Store.serve_get.Goals as goal

pub returns-in-Ok-None-clause-served : goal.returns-in-Ok-None-clause-served
returns-in-Ok-None-clause-served g c =
    let v = but_for_room c.args.self.now in
    let is_ : c.get.result ≡ Ok None = search rules in
    let answered = get_absent_so v v c.args.id refl in
    let step = λ (honest : g.D.PageDisk.honest c.args.disk.now). absent_served c.args.self.now (g.D.PageDisk.state c.args.disk.now) (g.D.PageDisk.state c.get.new.disk) c.args.id (c.get.ensures.disk.same honest)
    (subst (λ (r : Result (Option (Vec ℕ Global)) Code). GetAnswers c.args.self.now (g.D.PageDisk.state c.args.disk.now) (id_number c.args.id) r) is_ (c.get.ensures.step honest)) in
    search rules

pub returns-in-Err-clause-served : goal.returns-in-Err-clause-served
returns-in-Err-clause-served g c =
    let v = but_for_room c.args.self.now in
    let answered = λ (known : c.in-Err.refusal ≢ code.OutOfMemory). refused_alone v v (asked.Get c.args.id) tt c.in-Err.refusal (get_refuses c.args.id c.in-Err.refusal c.in-Err.ensures.refusals) known refl in
    let step = λ (honest : g.D.PageDisk.honest c.args.disk.now) (known : c.in-Err.refusal ≢ code.OutOfMemory).
    get_refused c.args.self.now (g.D.PageDisk.state c.args.disk.now) (g.D.PageDisk.state c.get.new.disk) c.args.id c.in-Err.refusal (c.get.ensures.disk.same honest) (c.in-Err.ensures.step honest) known in
    let unlimited = if_refused_unlimited c.in-Err.refusal c.refused.result c.refused.ensures (read_unlimited c.in-Err.refusal c.in-Err.ensures.refusals) in
    let issued = λ (sound : g.D.PageDisk.sound c.args.disk.now). always_sound (g.D.PageDisk.sound c.get.new.disk) c.refused.result (c.get.ensures.disk.sound sound).0 in
    search (rules, if_refused_so, if_refused)

pub returns-clause-served : goal.returns-clause-served
returns-clause-served g c =
    let v = but_for_room c.args.self.now in
    let is_ : c.get.result ≡ Ok (Some c.in-Ok-Some.bytes) = search rules in
    let meant = subst (λ (r : Result (Option (Vec ℕ Global)) Code). IfOk r (λ found. IfSome found (λ bytes. AreMeantBytes c.args.self.now (id_number c.args.id) bytes.items))) is_ c.get.ensures.meant in
    let answered = get_found_so v v c.args.id c.in-Ok-Some.bytes.items meant refl in
    let step = λ (honest : g.D.PageDisk.honest c.args.disk.now). found_served c.args.self.now (g.D.PageDisk.state c.args.disk.now) (g.D.PageDisk.state c.get.new.disk) c.args.id c.in-Ok-Some.bytes (c.get.ensures.disk.same honest)
    (subst (λ (r : Result (Option (Vec ℕ Global)) Code). GetAnswers c.args.self.now (g.D.PageDisk.state c.args.disk.now) (id_number c.args.id) r) is_ (c.get.ensures.step honest)) in
    let issued = λ (sound : g.D.PageDisk.sound c.args.disk.now). always_sound (g.D.PageDisk.sound c.get.new.disk) c.found.result (c.get.ensures.disk.sound sound).0 in
    search (rules, if_found_so, if_found)
