use Rattle.std.proofs.Common.{◌≡◌, ℕ, List, true, subst, sym, ◌<◌}
use Rattle.cs_disk.specs.Disk.{seen}
use Rattle.cs_mount.specs.Hidden.{is_among}
use Rattle.cs_mount.specs.Unreadable.{LeavesFenced}
use Rattle.cs_store.proofs.Readied.{read_partly, rises_from}
use Rattle.cs_store.proofs.fences.ready_to_write.Goals as goal

pub give_up-requires : goal.give_up-requires
give_up-requires g c =
    let D = g.D.PageDisk in
    subst (λ (l : List ℕ). (p : ℕ) → is_among l p ≡ true → p < D.page_count c.unreadable_halves.new.disk) (sym c.deref-2.ensures.value)
    (λ p is. subst (λ (k : ℕ). p < k) (sym c.in-Ok.ensures.disk.pages) (c.in-Ok.ensures.inside p is))

pub returns-in-Err-give_up-clause-partly : goal.returns-in-Err-give_up-clause-partly
returns-in-Err-give_up-clause-partly g c = λ h.
    let D = g.D.PageDisk in
    let mid = c.unreadable_halves.new.disk in
    let now = c.give_up.new.disk in
    read_partly (D.page_count c.args.disk.now) (D.state c.args.disk.now) (D.state mid) (D.state now) c.in-Ok.unread.items (c.in-Ok.ensures.disk.same h) (c.in-Ok.ensures.halves h)
    (subst (λ (l : List ℕ). LeavesFenced l (D.state mid) (seen (D.state now))) c.deref-2.ensures.value (c.in-Err-give_up.ensures.refused (c.in-Ok.ensures.disk.honesty.0 h)))

pub returns-in-Err-give_up-clause-cause : goal.returns-in-Err-give_up-clause-cause
returns-in-Err-give_up-clause-cause g c = λ is.
    let D = g.D.PageDisk in
    rises_from (D.failure_count c.args.disk.now) (D.failure_count c.unreadable_halves.new.disk) (D.failure_count c.give_up.new.disk) c.in-Ok.ensures.disk.failures (c.in-Err-give_up.ensures.cause is)
