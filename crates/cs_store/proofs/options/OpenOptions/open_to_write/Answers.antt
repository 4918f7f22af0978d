use Rattle.std.proofs.Common.{None, [], ℕ, ap, arith, inl, inr, refl, subst, sym, ⊎_elim, ◌∙◌, ◌≡◌, ◌≢◌, ◌⊎◌, ◌<◌, Err}
use Rattle.cs_chunk.specs.Reads.{IsNoAnswer}
use Rattle.cs_disk.specs.Disk.{Image, MayLeave, State, flushed, page, seen}
use Rattle.cs_frame.specs.Formats.{formats_of}
use Rattle.cs_frame.specs.Geometries.{section_size}
use Rattle.cs_mount.proofs.Opened.{opened_by}
use Rattle.cs_mount.specs.Identities.{AreOfTwo, IsOfOne}
use Rattle.cs_mount.specs.Showing.{ShowsOn, findings_on, shown_by, shown_on}
use Rattle.cs_mount.specs.StorePairs.{dimensions_on}
use Rattle.cs_reader.specs.Openings.{IsWhyNotOpened}
use Rattle.cs_refusal.specs.declared.refusals.Refusal.TheVariants.{NotAStore}
use Rattle.cs_twin.specs.Paired.{disk_below, left_as_shown}
use Rattle.law_machine.specs.Geometry.{shape_of}
use Rattle.law_machine.specs.Recovery.{Recovers}
use Rattle.cs_store.specs.Opening.{AgreeBeside, AreFencesIn, NoneIsPassedOver, Opening, given_up}
use Rattle.cs_store.specs.declared.options.Loss.TheVariants.{Refused}
use Rattle.cs_store.proofs.Readied.{answered, given_up_partly, moved, moved_back, none_given_up, opened_readable, rises_from, same_Err, shows_moved}
use Rattle.cs_store.proofs.options.OpenOptions.open_to_write.Goals as goal

-- ---- it is opened

pub returns-in-Ok-open_readied-clause-image : goal.returns-in-Ok-open_readied-clause-image
returns-in-Ok-open_readied-clause-image g c = λ h.
    let D = g.D.PageDisk in
    let d = c.ready_to_write.new.disk in
    let read = c.in-Ok-open_readied.ensures.image (c.ready_to_write.ensures.honest.0 h) in
    let shows = shows_moved (D.page_count d) (D.page_count c.args.disk) (D.state d) (given_up c.in-Ok.lost.items (D.state c.args.disk)) c.ready_to_write.ensures.pages (c.in-Ok.ensures.state h) in
    (read.0 ∙ shows, read.1 ∙ ap (λ (z : Image). record { durable = z; volatile = [] }) shows)

pub returns-in-Ok-open_readied-clause-store : goal.returns-in-Ok-open_readied-clause-store
returns-in-Ok-open_readied-clause-store g c =
    let core = c.in-Ok-open_readied.store in
    opened_by (g.D.PageDisk.honest c.ready_to_write.new.disk) (g.D.PageDisk.honest c.args.disk) core.opened core.found core.store c.ready_to_write.ensures.honest.0 c.in-Ok-open_readied.ensures.store

pub returns-in-Ok-open_readied-clause-one : goal.returns-in-Ok-open_readied-clause-one
returns-in-Ok-open_readied-clause-one g c = λ h.
    let D = g.D.PageDisk in
    let d = c.ready_to_write.new.disk in
    moved (D.page_count d) (D.page_count c.args.disk) (D.state d) (given_up c.in-Ok.lost.items (D.state c.args.disk)) c.ready_to_write.ensures.pages (c.in-Ok.ensures.state h)
    (λ k z. IsOfOne k (seen z)) (c.in-Ok-open_readied.ensures.one (c.ready_to_write.ensures.honest.0 h))

pub returns-in-Ok-open_readied-clause-two : goal.returns-in-Ok-open_readied-clause-two
returns-in-Ok-open_readied-clause-two g c = λ h refused two.
    let D = g.D.PageDisk in
    let d = c.ready_to_write.new.disk in
    let same = none_given_up c.in-Ok.lost.items (D.state c.args.disk) (D.state d) (c.in-Ok.ensures.none (subst (λ (u : Opening). u.loss ≡ Refused) (sym c.self.view_is) refused)) (c.in-Ok.ensures.state h) in
    c.in-Ok-open_readied.ensures.two (c.ready_to_write.ensures.honest.0 h)
    (moved_back (D.page_count d) (D.page_count c.args.disk) (D.state d) (D.state c.args.disk) c.ready_to_write.ensures.pages same (λ k z. AreOfTwo k (seen z)) two)

pub returns-in-Ok-open_readied-clause-recovers : goal.returns-in-Ok-open_readied-clause-recovers
returns-in-Ok-open_readied-clause-recovers g c = λ h refused one format extents pages sections geometry size n m recovers.
    let D = g.D.PageDisk in
    let d = c.ready_to_write.new.disk in
    let S = shape_of extents pages sections (section_size extents sections) format in
    let same = none_given_up c.in-Ok.lost.items (D.state c.args.disk) (D.state d) (c.in-Ok.ensures.none (subst (λ (u : Opening). u.loss ≡ Refused) (sym c.self.view_is) refused)) (c.in-Ok.ensures.state h) in
    let back = moved_back (D.page_count d) (D.page_count c.args.disk) (D.state d) (D.state c.args.disk) c.ready_to_write.ensures.pages same in
    c.in-Ok-open_readied.ensures.recovers (c.ready_to_write.ensures.honest.0 h) (back (λ k z. IsOfOne k (seen z)) one) format extents pages sections geometry (c.ready_to_write.ensures.pages ∙ size) n m
    (back (λ k z. Recovers S (formats_of S) (page (shown_on k (seen z))) n m) recovers)

pub returns-in-Ok-open_readied-clause-map : goal.returns-in-Ok-open_readied-clause-map
returns-in-Ok-open_readied-clause-map g c = λ h format extents pages sections geometry size n m recovers.
    let D = g.D.PageDisk in
    let d = c.ready_to_write.new.disk in
    let now = c.ready_to_write.ensures.honest.0 h in
    let S = shape_of extents pages sections (section_size extents sections) format in
    let back = moved_back (D.page_count d) (D.page_count c.args.disk) (D.state d) (given_up c.in-Ok.lost.items (D.state c.args.disk)) c.ready_to_write.ensures.pages (c.in-Ok.ensures.state h) in
    c.in-Ok-open_readied.ensures.recovers now (c.in-Ok-open_readied.ensures.one now) format extents pages sections geometry (c.ready_to_write.ensures.pages ∙ size) n m
    (back (λ k z. Recovers S (formats_of S) (page (shown_on k (seen z))) n m) recovers)

pub returns-in-Ok-open_readied-clause-findings : goal.returns-in-Ok-open_readied-clause-findings
returns-in-Ok-open_readied-clause-findings g c = λ h.
    let D = g.D.PageDisk in
    let d = c.ready_to_write.new.disk in
    moved (D.page_count d) (D.page_count c.args.disk) (D.state d) (given_up c.in-Ok.lost.items (D.state c.args.disk)) c.ready_to_write.ensures.pages (c.in-Ok.ensures.state h)
    (λ k z. c.in-Ok-open_readied.findings.items ≡ findings_on k (seen z)) (c.in-Ok-open_readied.ensures.findings (c.ready_to_write.ensures.honest.0 h))

pub returns-in-Ok-open_readied-clause-guarded : goal.returns-in-Ok-open_readied-clause-guarded
returns-in-Ok-open_readied-clause-guarded g c = λ h.
    let D = g.D.PageDisk in
    subst (λ k. NoneIsPassedOver (findings_on k (seen (D.state (disk_below c.in-Ok-open_readied.store.disk))))) c.ready_to_write.ensures.pages (c.in-Ok-open_readied.ensures.guarded (c.ready_to_write.ensures.honest.0 h))

pub returns-in-Ok-open_readied-clause-filled : goal.returns-in-Ok-open_readied-clause-filled
returns-in-Ok-open_readied-clause-filled g c = λ h.
    let D = g.D.PageDisk in
    let d = c.ready_to_write.new.disk in
    moved (D.page_count d) (D.page_count c.args.disk) (D.state d) (given_up c.in-Ok.lost.items (D.state c.args.disk)) c.ready_to_write.ensures.pages (c.in-Ok.ensures.state h)
    (λ k z. AreFencesIn (findings_on k (seen z)) (seen (D.state (disk_below c.in-Ok-open_readied.store.disk)))) (c.in-Ok-open_readied.ensures.filled (c.ready_to_write.ensures.honest.0 h))

pub returns-in-Ok-open_readied-clause-untouched : goal.returns-in-Ok-open_readied-clause-untouched
returns-in-Ok-open_readied-clause-untouched g c = λ h.
    let D = g.D.PageDisk in
    let d = c.ready_to_write.new.disk in
    moved (D.page_count d) (D.page_count c.args.disk) (D.state d) (given_up c.in-Ok.lost.items (D.state c.args.disk)) c.ready_to_write.ensures.pages (c.in-Ok.ensures.state h)
    (λ k z. AgreeBeside (findings_on k (seen z)) (seen z) (seen (D.state (disk_below c.in-Ok-open_readied.store.disk)))) (c.in-Ok-open_readied.ensures.untouched (c.ready_to_write.ensures.honest.0 h))

pub returns-in-Ok-open_readied-clause-unwritten : goal.returns-in-Ok-open_readied-clause-unwritten
returns-in-Ok-open_readied-clause-unwritten g c = λ h refused none.
    let D = g.D.PageDisk in
    let d = c.ready_to_write.new.disk in
    let same = none_given_up c.in-Ok.lost.items (D.state c.args.disk) (D.state d) (c.in-Ok.ensures.none (subst (λ (u : Opening). u.loss ≡ Refused) (sym c.self.view_is) refused)) (c.in-Ok.ensures.state h) in
    c.in-Ok-open_readied.ensures.unwritten (c.ready_to_write.ensures.honest.0 h)
    (moved_back (D.page_count d) (D.page_count c.args.disk) (D.state d) (D.state c.args.disk) c.ready_to_write.ensures.pages same (λ k z. NoneIsPassedOver (findings_on k (seen z))) none)
    ∙ ap flushed same

pub returns-in-Ok-open_readied-clause-crash : goal.returns-in-Ok-open_readied-clause-crash
returns-in-Ok-open_readied-clause-crash g c = λ h empty left past.
    let D = g.D.PageDisk in
    let d = c.ready_to_write.new.disk in
    let reads = c.in-Ok.ensures.reads empty in
    moved (D.page_count d) (D.page_count c.args.disk) (D.state d) (D.state c.args.disk) c.ready_to_write.ensures.pages (reads.same h) (λ k z. ShowsOn k (seen z) (MayLeave z) left)
    (c.in-Ok-open_readied.ensures.crash (c.ready_to_write.ensures.honest.0 h) left (subst (λ (t : ℕ). left_as_shown c.in-Ok-open_readied.store.disk t left) (sym (reads.still h)) past))

pub returns-in-Ok-open_readied-clause-honest : goal.returns-in-Ok-open_readied-clause-honest
returns-in-Ok-open_readied-clause-honest g c =
    let first = c.ready_to_write.ensures.honest in
    ((λ h. c.in-Ok-open_readied.ensures.honest.0 (first.0 h)), (λ h. first.1 (c.in-Ok-open_readied.ensures.honest.1 h)))

-- ---- the store isn't opened

pub returns-in-Err-open_readied-clause-two : goal.returns-in-Err-open_readied-clause-two
returns-in-Err-open_readied-clause-two g c = λ h refused two.
    let D = g.D.PageDisk in
    let d = c.ready_to_write.new.disk in
    let same = none_given_up c.in-Ok.lost.items (D.state c.args.disk) (D.state d) (c.in-Ok.ensures.none (subst (λ (u : Opening). u.loss ≡ Refused) (sym c.self.view_is) refused)) (c.in-Ok.ensures.state h) in
    let is = c.in-Err-open_readied.ensures.two (c.ready_to_write.ensures.honest.0 h)
    (moved_back (D.page_count d) (D.page_count c.args.disk) (D.state d) (D.state c.args.disk) c.ready_to_write.ensures.pages same (λ k z. AreOfTwo k (seen z)) two) in
    (⊎_elim (λ no. inl no) (λ none. inr (inr none)) is.0, is.1 ∙ same)

pub returns-in-Err-open_readied-clause-recovers : goal.returns-in-Err-open_readied-clause-recovers
returns-in-Err-open_readied-clause-recovers g c = λ h refused one format extents pages sections geometry size n m recovers.
    let D = g.D.PageDisk in
    let d = c.ready_to_write.new.disk in
    let S = shape_of extents pages sections (section_size extents sections) format in
    let same = none_given_up c.in-Ok.lost.items (D.state c.args.disk) (D.state d) (c.in-Ok.ensures.none (subst (λ (u : Opening). u.loss ≡ Refused) (sym c.self.view_is) refused)) (c.in-Ok.ensures.state h) in
    let back = moved_back (D.page_count d) (D.page_count c.args.disk) (D.state d) (D.state c.args.disk) c.ready_to_write.ensures.pages same in
    inl (c.in-Err-open_readied.ensures.recovers (c.ready_to_write.ensures.honest.0 h) (back (λ k z. IsOfOne k (seen z)) one) format extents pages sections geometry (c.ready_to_write.ensures.pages ∙ size) n m
    (back (λ k z. Recovers S (formats_of S) (page (shown_on k (seen z))) n m) recovers))

pub returns-in-Err-open_readied-clause-shown : goal.returns-in-Err-open_readied-clause-shown
returns-in-Err-open_readied-clause-shown g c = λ h refused.
    let D = g.D.PageDisk in
    let d = c.ready_to_write.new.disk in
    let same = none_given_up c.in-Ok.lost.items (D.state c.args.disk) (D.state d) (c.in-Ok.ensures.none (subst (λ (u : Opening). u.loss ≡ Refused) (sym c.self.view_is) refused)) (c.in-Ok.ensures.state h) in
    moved (D.page_count d) (D.page_count c.args.disk) (D.state d) (D.state c.args.disk) c.ready_to_write.ensures.pages same
    (λ k z. shown_on k (seen (D.state c.in-Err-open_readied.refused.1)) ≡ shown_on k (seen z)) (c.in-Err-open_readied.ensures.shown (c.ready_to_write.ensures.honest.0 h))

pub returns-in-Err-open_readied-clause-partly : goal.returns-in-Err-open_readied-clause-partly
returns-in-Err-open_readied-clause-partly g c = λ h.
    let D = g.D.PageDisk in
    let d = c.ready_to_write.new.disk in
    let before = given_up c.in-Ok.lost.items (D.state c.args.disk) in (
      seen before,
      given_up_partly (D.page_count c.args.disk) (D.state c.args.disk) c.in-Ok.lost.items (c.in-Ok.ensures.halves h),
      moved (D.page_count d) (D.page_count c.args.disk) (D.state d) before c.ready_to_write.ensures.pages (c.in-Ok.ensures.state h)
          (λ k z. shown_on k (seen (D.state c.in-Err-open_readied.refused.1)) ≡ shown_on k (seen z)) (c.in-Err-open_readied.ensures.shown (c.ready_to_write.ensures.honest.0 h)),
    )

pub returns-in-Err-open_readied-clause-refusals : goal.returns-in-Err-open_readied-clause-refusals
returns-in-Err-open_readied-clause-refusals g c = λ h refused.
    let D = g.D.PageDisk in
    let d = c.ready_to_write.new.disk in
    let r = c.in-Err-open_readied.refused.0 in
    let same = none_given_up c.in-Ok.lost.items (D.state c.args.disk) (D.state d) (c.in-Ok.ensures.none (subst (λ (u : Opening). u.loss ≡ Refused) (sym c.self.view_is) refused)) (c.in-Ok.ensures.state h) in
    let why = moved (D.page_count d) (D.page_count c.args.disk) (D.state d) (D.state c.args.disk) c.ready_to_write.ensures.pages same
    (λ k z. IsNoAnswer r ⊎ ((r ≡ NotAStore) × AreOfTwo k (seen z)) ⊎ IsWhyNotOpened k (page (shown_on k (seen z))) r) (c.in-Err-open_readied.ensures.refusals (c.ready_to_write.ensures.honest.0 h)) in
    ⊎_elim (λ no. inl no) (λ is. inr (inr is)) why

pub returns-in-Err-open_readied-clause-left : goal.returns-in-Err-open_readied-clause-left
returns-in-Err-open_readied-clause-left g c = λ h.
    let D = g.D.PageDisk in
    let d = c.ready_to_write.new.disk in
    let r = c.in-Err-open_readied.refused.0 in
    let why = moved (D.page_count d) (D.page_count c.args.disk) (D.state d) (given_up c.in-Ok.lost.items (D.state c.args.disk)) c.ready_to_write.ensures.pages (c.in-Ok.ensures.state h)
    (λ k z. IsNoAnswer r ⊎ ((r ≡ NotAStore) × AreOfTwo k (seen z)) ⊎ IsWhyNotOpened k (page (shown_on k (seen z))) r) (c.in-Err-open_readied.ensures.refusals (c.ready_to_write.ensures.honest.0 h)) in
    ⊎_elim (λ no. inl no) (λ is. inr (inr (c.in-Ok.lost.items, c.in-Ok.ensures.halves h, is))) why

pub returns-in-Err-open_readied-clause-number : goal.returns-in-Err-open_readied-clause-number
returns-in-Err-open_readied-clause-number g c = inl c.in-Err-open_readied.ensures.number

pub returns-in-Err-open_readied-clause-small : goal.returns-in-Err-open_readied-clause-small
returns-in-Err-open_readied-clause-small g c = λ few.
    let small = c.ready_to_write.ensures.small few in
    let refused = same_Err c.in-Err-open_readied.refused (NotAStore, c.ready_to_write.new.disk) (c.in-Err-open_readied.ensures.small (subst (λ (k : ℕ). k < 10) (sym c.ready_to_write.ensures.pages) few)) in
    ap (λ it. Err it) (refused ∙ ap (λ it. (NotAStore, it)) small.0)

pub returns-in-Err-open_readied-clause-unreadable : goal.returns-in-Err-open_readied-clause-unreadable
returns-in-Err-open_readied-clause-unreadable g c = λ is. opened_readable c.in-Err-open_readied.refused.0 c.in-Err-open_readied.ensures.number is

pub returns-in-Err-open_readied-clause-kept : goal.returns-in-Err-open_readied-clause-kept
returns-in-Err-open_readied-clause-kept g c = λ h is. opened_readable c.in-Err-open_readied.refused.0 c.in-Err-open_readied.ensures.number is

pub returns-in-Err-open_readied-clause-cause : goal.returns-in-Err-open_readied-clause-cause
returns-in-Err-open_readied-clause-cause g c = λ one.
    let D = g.D.PageDisk in
    rises_from (D.failure_count c.args.disk) (D.failure_count c.ready_to_write.new.disk) (D.failure_count c.in-Err-open_readied.refused.1) c.ready_to_write.ensures.later (c.in-Err-open_readied.ensures.cause one)

pub returns-in-Err-open_readied-clause-unwritten : goal.returns-in-Err-open_readied-clause-unwritten
returns-in-Err-open_readied-clause-unwritten g c = λ h refused none.
    let D = g.D.PageDisk in
    let d = c.ready_to_write.new.disk in
    let same = none_given_up c.in-Ok.lost.items (D.state c.args.disk) (D.state d) (c.in-Ok.ensures.none (subst (λ (u : Opening). u.loss ≡ Refused) (sym c.self.view_is) refused)) (c.in-Ok.ensures.state h) in
    ⊎_elim (λ was. inl (was ∙ same)) (λ now. inr (now ∙ ap flushed same))
    (c.in-Err-open_readied.ensures.unwritten (c.ready_to_write.ensures.honest.0 h)
    (moved_back (D.page_count d) (D.page_count c.args.disk) (D.state d) (D.state c.args.disk) c.ready_to_write.ensures.pages same (λ k z. NoneIsPassedOver (findings_on k (seen z))) none))

pub returns-in-Err-open_readied-clause-honest : goal.returns-in-Err-open_readied-clause-honest
returns-in-Err-open_readied-clause-honest g c =
    let first = c.ready_to_write.ensures.honest in
    ((λ h. c.in-Err-open_readied.ensures.honest.0 (first.0 h)), (λ h. first.1 (c.in-Err-open_readied.ensures.honest.1 h)))

-- ---- the disk isn't readied

pub returns-in-Err-clause-two : goal.returns-in-Err-clause-two
returns-in-Err-clause-two g c = λ h refused two. (⊎_elim (λ no. inl no) (λ it. inr (inl it.0)) c.in-Err.ensures.refused, (c.in-Err.ensures.same (subst (λ (u : Opening). u.loss ≡ Refused) (sym c.self.view_is) refused)).same h)

pub returns-in-Err-clause-recovers : goal.returns-in-Err-clause-recovers
returns-in-Err-clause-recovers g c = λ h refused one format extents pages sections geometry size n m recovers. ⊎_elim (λ no. inl no) (λ it. inr it.0) c.in-Err.ensures.refused

pub returns-in-Err-clause-shown : goal.returns-in-Err-clause-shown
returns-in-Err-clause-shown g c = λ h refused. ap (λ (s : State). shown_on (g.D.PageDisk.page_count c.args.disk) (seen s)) ((c.in-Err.ensures.same (subst (λ (u : Opening). u.loss ≡ Refused) (sym c.self.view_is) refused)).same h)

pub returns-in-Err-clause-partly : goal.returns-in-Err-clause-partly
returns-in-Err-clause-partly g c = λ h. (seen (g.D.PageDisk.state c.ready_to_write.new.disk), c.in-Err.ensures.partly h, refl)

pub returns-in-Err-clause-refusals : goal.returns-in-Err-clause-refusals
returns-in-Err-clause-refusals g c = λ h refused. ⊎_elim (λ no. inl no) (λ it. inr (inl it.0)) c.in-Err.ensures.refused

pub returns-in-Err-clause-number : goal.returns-in-Err-clause-number
returns-in-Err-clause-number g c = ⊎_elim (λ no. inl (inl no)) (λ it. inr it.0) c.in-Err.ensures.refused

pub returns-in-Err-clause-unreadable : goal.returns-in-Err-clause-unreadable
returns-in-Err-clause-unreadable g c = λ is. ⊎_elim (λ no. answered c.in-Err.refusal no is) (λ it. (subst (λ (u : Opening). u.loss ≡ Refused) c.self.view_is it.1, it.2)) c.in-Err.ensures.refused

pub returns-in-Err-clause-kept : goal.returns-in-Err-clause-kept
returns-in-Err-clause-kept g c = λ h is. ⊎_elim (λ no. answered c.in-Err.refusal no is) (λ it. (c.in-Err.ensures.same it.1).same h) c.in-Err.ensures.refused

pub returns-in-Err-clause-cause : goal.returns-in-Err-clause-cause
returns-in-Err-clause-cause g c = c.in-Err.ensures.cause

pub returns-in-Err-clause-left : goal.returns-in-Err-clause-left
returns-in-Err-clause-left g c = λ h. ⊎_elim (λ no. inl no) (λ it. inr (inl it.0)) c.in-Err.ensures.refused

pub returns-in-Err-clause-unwritten : goal.returns-in-Err-clause-unwritten
returns-in-Err-clause-unwritten g c = λ h refused none. inl ((c.in-Err.ensures.same (subst (λ (u : Opening). u.loss ≡ Refused) (sym c.self.view_is) refused)).same h)

-- ---- what a crash leaves where it is refused

pub returns-in-Err-open_readied-clause-crash_refused : goal.returns-in-Err-open_readied-clause-crash_refused
returns-in-Err-open_readied-clause-crash_refused g c = λ h refused some left past.
    let D = g.D.PageDisk in
    let d = c.ready_to_write.new.disk in
    let reads = c.in-Ok.ensures.reads (c.in-Ok.ensures.none (subst (λ (u : Opening). u.loss ≡ Refused) (sym c.self.view_is) refused)) in
    let same = reads.same h in
    moved (D.page_count d) (D.page_count c.args.disk) (D.state d) (D.state c.args.disk) c.ready_to_write.ensures.pages same (λ k z. ShowsOn k (seen z) (MayLeave z) (shown_by k (seen z) left))
    (c.in-Err-open_readied.ensures.crash_refused (c.ready_to_write.ensures.honest.0 h)
    (moved_back (D.page_count d) (D.page_count c.args.disk) (D.state d) (D.state c.args.disk) c.ready_to_write.ensures.pages same (λ k z. dimensions_on k (seen z) ≢ None) some)
    left (subst (λ (t : ℕ). D.left_since c.in-Err-open_readied.refused.1 t left) (sym (reads.still h)) past))

pub returns-in-Err-clause-crash_refused : goal.returns-in-Err-clause-crash_refused
returns-in-Err-clause-crash_refused g c = λ h refused some left past.
    let D = g.D.PageDisk in
    let disk = c.args.disk in
    let reads = c.in-Err.ensures.same (subst (λ (u : Opening). u.loss ≡ Refused) (sym c.self.view_is) refused) in
    let may : MayLeave (D.state disk) left = ⊎_elim (λ was. g.met.D.PageDisk.only_now disk left h was) (λ now. subst (λ (s : State). MayLeave s left) (reads.same h) now) ((reads.time h).nothing_else (D.moment disk) left (omega arith) past) in
    (left, may, refl)
