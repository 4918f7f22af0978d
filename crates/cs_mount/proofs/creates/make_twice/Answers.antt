use Rattle.std.proofs.Common.{◌∙◌, ◌⊎◌, ⊎_elim, arith, subst, sym}
use Rattle.cs_disk.specs.Disk.{MayLeave, State}
use Rattle.cs_mount.specs.Makings.{LeavesLaying}
use Rattle.cs_mount.proofs.Laying.{flushed_left}
use Rattle.cs_twin.specs.Paired.{state_shown}
use Rattle.cs_mount.proofs.NewMade.{made_both, made_found, made_one, made_recovers, made_shows, made_start, made_store, made_written}
use Rattle.cs_mount.proofs.creates.make_twice.Goals as goal

pub returns-in-Ok-open-clause-store : goal.returns-in-Ok-open-clause-store
returns-in-Ok-open-clause-store g c = λ h.
    let D = g.D.PageDisk in
    let d = c.args.geometry in
    let disk = c.args.disk in
    let mid = c.lay_store.new.disk in
    let there = c.lay_store.ensures.honest.0 h in
    let core = c.in-Ok-open.core in
    made_store d c.requires.geometry c.requires.twins (D.state disk) (g.met.D.PageDisk.sized disk h ∙ sym c.requires.sized) (D.page_count mid) (D.state mid) (c.lay_store.ensures.pages ∙ sym c.requires.sized) (c.in-Ok.ensures.laid h)
    (D.honest mid) core.opened core.found core.store there (c.in-Ok-open.ensures.image there).0 c.progress.ensures.whole c.in-Ok-open.ensures.store

pub returns-in-Ok-open-clause-found : goal.returns-in-Ok-open-clause-found
returns-in-Ok-open-clause-found g c = λ h.
    let D = g.D.PageDisk in
    let d = c.args.geometry in
    let disk = c.args.disk in
    let mid = c.lay_store.new.disk in
    let there = c.lay_store.ensures.honest.0 h in
    let count = c.lay_store.ensures.pages ∙ sym c.requires.sized in
    made_found _ c.in-Ok-open.core.store c.in-Ok-open.core.found (c.in-Ok-open.ensures.recovers there (c.in-Ok-open.ensures.one there) d.format d.extents d.pages d.sections c.requires.geometry count 0 _
    (made_recovers d c.requires.geometry c.requires.twins (D.state disk) (g.met.D.PageDisk.sized disk h ∙ sym c.requires.sized) (D.page_count mid) (D.state mid) count (c.in-Ok.ensures.laid h)))

pub returns-in-Ok-open-clause-start : goal.returns-in-Ok-open-clause-start
returns-in-Ok-open-clause-start g c = λ h.
    let D = g.D.PageDisk in
    let disk = c.args.disk in
    let mid = c.lay_store.new.disk in
    let there = c.lay_store.ensures.honest.0 h in
    made_start c.args.geometry c.requires.geometry c.requires.twins (D.state disk) (g.met.D.PageDisk.sized disk h ∙ sym c.requires.sized) (D.page_count mid) (D.state mid) (c.lay_store.ensures.pages ∙ sym c.requires.sized) (c.in-Ok.ensures.laid h)
    c.in-Ok-open.core.opened c.in-Ok-open.core.store (returns-in-Ok-open-clause-store g c h) (c.in-Ok-open.ensures.image there).0

pub returns-in-Ok-open-clause-written : goal.returns-in-Ok-open-clause-written
returns-in-Ok-open-clause-written g c = λ h.
    let D = g.D.PageDisk in
    let disk = c.args.disk in
    let mid = c.lay_store.new.disk in
    let there = c.lay_store.ensures.honest.0 h in
    made_written c.args.geometry c.requires.geometry c.requires.twins (D.state disk) (g.met.D.PageDisk.sized disk h ∙ sym c.requires.sized) (D.page_count mid) (D.state mid) (c.lay_store.ensures.pages ∙ sym c.requires.sized) (c.in-Ok.ensures.laid h)
    (state_shown c.in-Ok-open.core.disk) (c.in-Ok-open.ensures.image there).1

pub returns-in-Ok-open-clause-honest : goal.returns-in-Ok-open-clause-honest
returns-in-Ok-open-clause-honest g c = ((λ h. c.in-Ok-open.ensures.honest.0 (c.lay_store.ensures.honest.0 h)), (λ h. c.lay_store.ensures.honest.1 (c.in-Ok-open.ensures.honest.1 h)))

pub returns-in-Ok-open-clause-both : goal.returns-in-Ok-open-clause-both
returns-in-Ok-open-clause-both g c = λ h.
    let D = g.D.PageDisk in
    let disk = c.args.disk in
    made_both c.args.geometry c.requires.geometry c.requires.twins (D.state disk) (g.met.D.PageDisk.sized disk h ∙ sym c.requires.sized) (D.state c.lay_store.new.disk) _ (c.in-Ok.ensures.laid h) (c.in-Ok-open.ensures.unwritten (c.lay_store.ensures.honest.0 h))

pub returns-clause-cause : goal.returns-clause-cause
returns-clause-cause g c = λ h is.
    let D = g.D.PageDisk in
    let d = c.args.geometry in
    let disk = c.args.disk in
    let mid = c.lay_store.new.disk in
    let there = c.lay_store.ensures.honest.0 h in
    let count = c.lay_store.ensures.pages ∙ sym c.requires.sized in
    let one = made_one d c.requires.geometry c.requires.twins (D.state disk) (g.met.D.PageDisk.sized disk h ∙ sym c.requires.sized) (D.page_count mid) (D.state mid) count (c.in-Ok.ensures.laid h) in
    let none = c.in-Err-open.ensures.recovers there one d.format d.extents d.pages d.sections c.requires.geometry count 0 _
    (made_recovers d c.requires.geometry c.requires.twins (D.state disk) (g.met.D.PageDisk.sized disk h ∙ sym c.requires.sized) (D.page_count mid) (D.state mid) count (c.in-Ok.ensures.laid h)) in
    let rises = c.in-Err-open.ensures.cause (sym (c.refusal_of_making.ensures.same none) ∙ is) in
    omega (arith, rises, c.lay_store.ensures.cause.later)

pub returns-in-Ok-open-clause-crash : goal.returns-in-Ok-open-clause-crash
returns-in-Ok-open-clause-crash g c = λ h left past.
    let D = g.D.PageDisk in
    let d = c.args.geometry in
    let disk = c.args.disk in
    let mid = c.lay_store.new.disk in
    let laying = c.lay_store.ensures.crash h in
    made_shows d c.requires.geometry c.requires.twins (D.state disk) (g.met.D.PageDisk.sized disk h ∙ sym c.requires.sized) (D.page_count mid) (D.state mid) (c.lay_store.ensures.pages ∙ sym c.requires.sized) (c.in-Ok.ensures.laid h)
    (λ image. D.left_since mid (D.moment disk) image ⊎ MayLeave (D.state mid) image) (LeavesLaying d (D.state disk)) left
    (λ image since. ⊎_elim (λ was. laying.each image was) (λ now. c.lay_store.ensures.left h image now) since)
    (c.in-Ok-open.ensures.before (c.lay_store.ensures.honest.0 h) (D.moment disk) left laying.later past)

pub returns-clause-left : goal.returns-clause-left
returns-clause-left g c = λ h.
    let D = g.D.PageDisk in
    let mid = c.lay_store.new.disk in
    let laid_left = c.lay_store.ensures.left h in
    ⊎_elim (λ same. λ image left. laid_left image (subst (λ (s : State). MayLeave s image) same left))
    (λ flush. λ image left. laid_left image (flushed_left (D.state mid) image (subst (λ (s : State). MayLeave s image) flush left)))
    (c.in-Err-open.ensures.unwritten (c.lay_store.ensures.honest.0 h))
