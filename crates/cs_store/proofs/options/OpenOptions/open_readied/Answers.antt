use Rattle.std.proofs.Common.{None, [], ap, arith, false, inl, inr, length, subst, sym, true, ℕ, ⊎_elim, ◌∙◌, ◌≡◌, ◌≢◌, ◌≤◌, ◌⊎◌}
use Rattle.std.specs.List.{list_any}
use Rattle.cs_chunk.specs.Reads.{IsNoAnswer}
use Rattle.cs_disk.proofs.Crashes.{MayLeave-flushed, seen_MayLeave}
use Rattle.cs_disk.specs.Disk.{Image, MayLeave, State, flushed, page, seen}
use Rattle.cs_frame.specs.Formats.{formats_of}
use Rattle.cs_frame.specs.Geometries.{section_size}
use Rattle.cs_mount.proofs.Mounting.{shows_later}
use Rattle.cs_mount.proofs.Opened.{opened_by}
use Rattle.cs_mount.specs.Showing.{shown_by, shown_on}
use Rattle.cs_mount.specs.StorePairs.{dimensions_on, pairs_where, store_version}
use Rattle.cs_reader.specs.Openings.{IsWhyNotOpened}
use Rattle.cs_twin.specs.Findings.{is_halved}
use Rattle.cs_twin.specs.Paired.{left_as_shown, moment_of, state_shown}
use Rattle.law_machine.specs.Geometry.{shape_of}
use Rattle.law_machine.specs.Recovery.{Recovers}
use Rattle.cs_store.proofs.Fenced.{filled_again, filled_still, guarded_again, guarded_still, long_seen, none_halved, not_passed, still_shown, untouched_again}
use Rattle.cs_refusal.specs.declared.refusals.Refusal.TheVariants.{NotAStore}
use Rattle.cs_store.proofs.LeavingOut.{never_refused}
use Rattle.cs_store.proofs.Maps.{opened_map}
use Rattle.cs_store.proofs.Readied.{rises_from}
use Rattle.cs_store.proofs.options.OpenOptions.open_readied.Goals as goal

pub returns-then-not-are_passed_over-clause-recovers : goal.returns-then-not-are_passed_over-clause-recovers
returns-then-not-are_passed_over-clause-recovers g c = λ h one format extents pages sections geometry size n m recovers.
    let D = g.D.PageDisk in
    let e = c.in-Ok.ensures in
    let read = e.recovers h one format extents pages sections geometry size n m recovers in (
      read.0,
      read.1,
      read.2,
      opened_map c.in-Ok.core (shape_of extents pages sections (section_size extents sections) format) (shown_on (D.page_count c.args.disk) (seen (D.state c.args.disk))) n m read.0 (e.image h).0 read.1 e.new.0 recovers,
    )

pub returns-then-not-are_passed_over-clause-guarded : goal.returns-then-not-are_passed_over-clause-guarded
returns-then-not-are_passed_over-clause-guarded g c = λ h.
    let D = g.D.PageDisk in
    let disk = c.args.disk in
    let unnamed : list_any is_halved c.in-Ok.findings.items ≡ false = ap (list_any is_halved) (sym c.deref.ensures.value) ∙ sym c.are_passed_over.ensures ∙ c.if-not-are_passed_over.true in
    guarded_still (D.page_count disk) (D.state disk) (g.met.D.PageDisk.sized disk h) c.in-Ok.findings.items (D.state c.in-Ok.core.disk.disk) (c.in-Ok.ensures.findings h) unnamed (c.in-Ok.ensures.unwritten h)

pub returns-in-Ok-open_fenced-clause-image : goal.returns-in-Ok-open_fenced-clause-image
returns-in-Ok-open_fenced-clause-image g c = λ h.
    let shows = (c.in-Ok.ensures.image h).1 in
    let again = c.in-Ok-open_fenced.ensures.image (c.in-Ok.ensures.honest.0 h) in
    (again.0 ∙ ap seen shows, again.1 ∙ ap flushed shows)

pub returns-in-Ok-open_fenced-clause-store : goal.returns-in-Ok-open_fenced-clause-store
returns-in-Ok-open_fenced-clause-store g c =
    let again = c.in-Ok-open_fenced.core in
    opened_by (g.D.PageDisk.honest c.in-Ok.core.disk.disk) (g.D.PageDisk.honest c.args.disk) again.opened again.found again.store c.in-Ok.ensures.honest.0 c.in-Ok-open_fenced.ensures.store

pub returns-in-Ok-open_fenced-clause-recovers : goal.returns-in-Ok-open_fenced-clause-recovers
returns-in-Ok-open_fenced-clause-recovers g c = λ h one format extents pages sections geometry size n m recovers.
    let D = g.D.PageDisk in
    let e = c.in-Ok-open_fenced.ensures in
    let below = c.in-Ok.ensures.honest.0 h in
    let S = shape_of extents pages sections (section_size extents sections) format in
    let shown = shown_on (D.page_count c.args.disk) (seen (D.state c.args.disk)) in
    let shows : seen (state_shown c.in-Ok.core.disk) ≡ shown = ap seen (c.in-Ok.ensures.image h).1 in
    let read = e.recovers below format extents pages sections geometry (c.in-Ok.ensures.pages ∙ size) n m (subst (λ (image : Image). Recovers S (formats_of S) (page image) n m) (sym shows) recovers) in (
      read.0,
      read.1,
      read.2,
      opened_map c.in-Ok-open_fenced.core S shown n m read.0 ((e.image below).0 ∙ shows) read.1 e.new.0 recovers,
    )

pub returns-in-Ok-open_fenced-clause-guarded : goal.returns-in-Ok-open_fenced-clause-guarded
returns-in-Ok-open_fenced-clause-guarded g c = λ h.
    let D = g.D.PageDisk in
    let disk = c.args.disk in
    let e = c.in-Ok-open_fenced.ensures in
    let p = c.in-Ok.core.disk in
    let q = c.in-Ok-open_fenced.core.disk in
    let before = c.in-Ok.ensures.honest.0 h in
    let now = e.honest.0 before in
    let shows = (c.in-Ok.ensures.image h).1 in
    let named : list_any is_halved c.in-Ok.findings.items ≡ true = ap (list_any is_halved) (sym c.deref.ensures.value) ∙ sym c.are_passed_over.ensures ∙ c.if-not-are_passed_over.false in
    guarded_again (D.page_count disk) (D.state disk) (g.met.D.PageDisk.sized disk h) c.in-Ok.findings.items (c.in-Ok.ensures.findings h) named
    (D.page_count p.disk) p.rules.geometry p.pairs.items (D.state p.disk) c.in-Ok.ensures.pages (p.fit before).durable shows
    (D.page_count q.disk) q.rules.geometry q.pairs.items (D.state q.disk) (e.pages ∙ c.in-Ok.ensures.pages) (q.fit now).durable ((e.image before).1 ∙ ap flushed shows)
    (e.fenced before)

pub returns-in-Ok-open_fenced-clause-unwritten : goal.returns-in-Ok-open_fenced-clause-unwritten
returns-in-Ok-open_fenced-clause-unwritten g c = λ h none.
    let disk = c.args.disk in
    let named : list_any is_halved c.in-Ok.findings.items ≡ true = ap (list_any is_halved) (sym c.deref.ensures.value) ∙ sym c.are_passed_over.ensures ∙ c.if-not-are_passed_over.false in
    not_passed (g.D.PageDisk.page_count disk) (g.D.PageDisk.state disk) (g.met.D.PageDisk.sized disk h) c.in-Ok.findings.items (c.in-Ok.ensures.findings h) named none

pub returns-in-Ok-open_fenced-clause-crash : goal.returns-in-Ok-open_fenced-clause-crash
returns-in-Ok-open_fenced-clause-crash g c = λ h left past.
    let D = g.D.PageDisk in
    let disk = c.args.disk in
    let found = dimensions_on (D.page_count disk) (seen (D.state disk)) in
    let calls = c.in-Ok.ensures.calls h in
    shows_later moment_of left_as_shown (store_version found) (pairs_where found) (D.state disk) c.in-Ok.core.disk c.in-Ok-open_fenced.core.disk (D.moment disk) (state_shown c.in-Ok.core.disk) left
    (c.in-Ok.ensures.image h).1 (omega (arith, calls)) (c.in-Ok.ensures.crash h) (c.in-Ok-open_fenced.ensures.crash (c.in-Ok.ensures.honest.0 h)) past

pub returns-in-Ok-open_fenced-clause-honest : goal.returns-in-Ok-open_fenced-clause-honest
returns-in-Ok-open_fenced-clause-honest g c = ((λ h. c.in-Ok-open_fenced.ensures.honest.0 (c.in-Ok.ensures.honest.0 h)), (λ h. c.in-Ok.ensures.honest.1 (c.in-Ok-open_fenced.ensures.honest.1 h)))

pub returns-in-Err-open_fenced-clause-recovers : goal.returns-in-Err-open_fenced-clause-recovers
returns-in-Err-open_fenced-clause-recovers g c = λ h one format extents pages sections geometry size n m recovers.
    let S = shape_of extents pages sections (section_size extents sections) format in
    c.in-Err-open_fenced.ensures.recovers (c.in-Ok.ensures.honest.0 h) format extents pages sections geometry (c.in-Ok.ensures.pages ∙ size) n m
    (subst (λ (image : Image). Recovers S (formats_of S) (page image) n m) (sym (ap seen (c.in-Ok.ensures.image h).1)) recovers)

pub returns-in-Err-open_fenced-clause-shown : goal.returns-in-Err-open_fenced-clause-shown
returns-in-Err-open_fenced-clause-shown g c = λ h.
    let D = g.D.PageDisk in
    let disk = c.args.disk in
    let n = D.page_count disk in
    let s = D.state disk in
    let long = g.met.D.PageDisk.sized disk h in
    let named : list_any is_halved c.in-Ok.findings.items ≡ true = ap (list_any is_halved) (sym c.deref.ensures.value) ∙ sym c.are_passed_over.ensures ∙ c.if-not-are_passed_over.false in
    let kept = subst (λ m. (image : Image) → length image ≡ m → dimensions_on m image ≢ None → state_shown c.in-Ok.core.disk ≡ record { durable = shown_on m image; volatile = [] } → shown_on m (seen (D.state c.in-Err-open_fenced.refused.1)) ≡ shown_on m image)
    c.in-Ok.ensures.pages (c.in-Err-open_fenced.ensures.kept (c.in-Ok.ensures.honest.0 h)) in
    kept (seen s) (long_seen n s long) (λ none. none_halved n s long c.in-Ok.findings.items (c.in-Ok.ensures.findings h) named none) (c.in-Ok.ensures.image h).1

pub returns-in-Err-open_fenced-clause-refusals : goal.returns-in-Err-open_fenced-clause-refusals
returns-in-Err-open_fenced-clause-refusals g c = λ h.
    let D = g.D.PageDisk in
    let disk = c.args.disk in
    let r = c.in-Err-open_fenced.refused.0 in
    let why : IsNoAnswer r ⊎ IsWhyNotOpened (D.page_count disk) (page (shown_on (D.page_count disk) (seen (D.state disk)))) r =
    subst (λ n. IsNoAnswer r ⊎ IsWhyNotOpened n (page (shown_on (D.page_count disk) (seen (D.state disk)))) r) c.in-Ok.ensures.pages
    (subst (λ (image : Image). IsNoAnswer r ⊎ IsWhyNotOpened (D.page_count c.in-Ok.core.disk.disk) (page image) r) (ap seen (c.in-Ok.ensures.image h).1) (c.in-Err-open_fenced.ensures.refusals (c.in-Ok.ensures.honest.0 h))) in
    ⊎_elim (λ no. inl no) (λ is. inr (inr is)) why

pub returns-in-Err-open_fenced-clause-two : goal.returns-in-Err-open_fenced-clause-two
returns-in-Err-open_fenced-clause-two g c = λ h two. absurd (c.in-Ok.ensures.two h two)

pub returns-in-Err-open_fenced-clause-cause : goal.returns-in-Err-open_fenced-clause-cause
returns-in-Err-open_fenced-clause-cause g c = λ is.
    let D = g.D.PageDisk in
    let refused = c.in-Err-open_fenced.refused in
    rises_from (D.failure_count c.args.disk) (D.failure_count c.in-Ok.core.disk.disk) (D.failure_count refused.1) c.in-Ok.ensures.later (c.in-Err-open_fenced.ensures.cause c.in-Ok.ensures.sound.0 c.in-Ok.ensures.sound.1 is)

pub returns-in-Err-open_fenced-clause-unwritten : goal.returns-in-Err-open_fenced-clause-unwritten
returns-in-Err-open_fenced-clause-unwritten g c = λ h none.
    let disk = c.args.disk in
    let named : list_any is_halved c.in-Ok.findings.items ≡ true = ap (list_any is_halved) (sym c.deref.ensures.value) ∙ sym c.are_passed_over.ensures ∙ c.if-not-are_passed_over.false in
    not_passed (g.D.PageDisk.page_count disk) (g.D.PageDisk.state disk) (g.met.D.PageDisk.sized disk h) c.in-Ok.findings.items (c.in-Ok.ensures.findings h) named none

pub returns-in-Err-clause-shown : goal.returns-in-Err-clause-shown
returns-in-Err-clause-shown g c = λ h.
    let D = g.D.PageDisk in
    let n = D.page_count c.args.disk in
    let now = D.state c.in-Err.refused.1 in
    let before = D.state c.args.disk in
    let either : (now ≡ before) ⊎ (now ≡ flushed before) = c.in-Err.ensures.unwritten h in
    still_shown n now before either

pub returns-in-Err-clause-unwritten : goal.returns-in-Err-clause-unwritten
returns-in-Err-clause-unwritten g c = λ h none. c.in-Err.ensures.unwritten h

pub returns-then-not-are_passed_over-clause-unwritten : goal.returns-then-not-are_passed_over-clause-unwritten
returns-then-not-are_passed_over-clause-unwritten g c = λ h none. c.in-Ok.ensures.unwritten h

pub returns-then-not-are_passed_over-clause-filled : goal.returns-then-not-are_passed_over-clause-filled
returns-then-not-are_passed_over-clause-filled g c = λ h.
    let D = g.D.PageDisk in
    let disk = c.args.disk in
    let unnamed : list_any is_halved c.in-Ok.findings.items ≡ false = ap (list_any is_halved) (sym c.deref.ensures.value) ∙ sym c.are_passed_over.ensures ∙ c.if-not-are_passed_over.true in
    filled_still (D.page_count disk) (D.state disk) (g.met.D.PageDisk.sized disk h) c.in-Ok.findings.items (seen (D.state c.in-Ok.core.disk.disk)) (c.in-Ok.ensures.findings h) unnamed

pub returns-then-not-are_passed_over-clause-untouched : goal.returns-then-not-are_passed_over-clause-untouched
returns-then-not-are_passed_over-clause-untouched g c = λ h number none. ap (λ (image : Image). page image number) (ap seen (c.in-Ok.ensures.unwritten h))

pub returns-in-Ok-open_fenced-clause-filled : goal.returns-in-Ok-open_fenced-clause-filled
returns-in-Ok-open_fenced-clause-filled g c = λ h.
    let D = g.D.PageDisk in
    let disk = c.args.disk in
    let p = c.in-Ok.core.disk in
    let before = c.in-Ok.ensures.honest.0 h in
    let named : list_any is_halved c.in-Ok.findings.items ≡ true = ap (list_any is_halved) (sym c.deref.ensures.value) ∙ sym c.are_passed_over.ensures ∙ c.if-not-are_passed_over.false in
    filled_again (D.page_count disk) (D.state disk) (g.met.D.PageDisk.sized disk h) c.in-Ok.findings.items (c.in-Ok.ensures.findings h) named
    (D.page_count p.disk) p.rules.geometry p.pairs.items (D.state p.disk) c.in-Ok.ensures.pages (p.fit before).durable (c.in-Ok.ensures.image h).1 (ap seen (c.in-Ok.ensures.unwritten h))
    (seen (D.state c.in-Ok-open_fenced.core.disk.disk)) (c.in-Ok-open_fenced.ensures.filled before)

pub returns-in-Ok-open_fenced-clause-untouched : goal.returns-in-Ok-open_fenced-clause-untouched
returns-in-Ok-open_fenced-clause-untouched g c = λ h.
    let D = g.D.PageDisk in
    let disk = c.args.disk in
    let p = c.in-Ok.core.disk in
    let before = c.in-Ok.ensures.honest.0 h in
    let named : list_any is_halved c.in-Ok.findings.items ≡ true = ap (list_any is_halved) (sym c.deref.ensures.value) ∙ sym c.are_passed_over.ensures ∙ c.if-not-are_passed_over.false in
    untouched_again (D.page_count disk) (D.state disk) (g.met.D.PageDisk.sized disk h) c.in-Ok.findings.items (c.in-Ok.ensures.findings h) named
    (D.page_count p.disk) p.rules.geometry p.pairs.items (D.state p.disk) c.in-Ok.ensures.pages (p.fit before).durable (c.in-Ok.ensures.image h).1 (ap seen (c.in-Ok.ensures.unwritten h))
    (seen (D.state c.in-Ok-open_fenced.core.disk.disk)) (c.in-Ok-open_fenced.ensures.untouched before)

pub returns-in-Err-open_fenced-clause-crash_refused : goal.returns-in-Err-open_fenced-clause-crash_refused
returns-in-Err-open_fenced-clause-crash_refused g c = λ h some left past.
    let D = g.D.PageDisk in
    let disk = c.args.disk in
    let n = D.page_count disk in
    let s = D.state disk in
    let p = c.in-Ok.core.disk in
    let was = c.in-Ok.ensures.calls h in
    let shows = (c.in-Ok.ensures.image h).1 in
    let z = shown_by n (seen s) left in
    let each = subst (λ m. (image : Image) → length image ≡ m → dimensions_on m image ≢ None → state_shown p ≡ record { durable = shown_on m image; volatile = [] } → (t : ℕ) (c' : Image) → t ≤ moment_of p
    → D.left_since c.in-Err-open_fenced.refused.1 t c' → left_as_shown p t (shown_by m image c') ⊎ MayLeave (state_shown p) (shown_by m image c'))
    c.in-Ok.ensures.pages (c.in-Err-open_fenced.ensures.crash_refused (c.in-Ok.ensures.honest.0 h)) in
    ⊎_elim (λ (before : left_as_shown p (D.moment disk) z). c.in-Ok.ensures.crash h z before)
    (λ (now : MayLeave (state_shown p) z). (seen s, seen_MayLeave s, MayLeave-flushed (record { durable = shown_on n (seen s); volatile = [] }) z (subst (λ (x : State). MayLeave x z) shows now)))
    (each (seen s) (long_seen n s (g.met.D.PageDisk.sized disk h)) some shows (D.moment disk) left (omega (arith, was)) past)

pub returns-in-Ok-open_fenced-clause-small : goal.returns-in-Ok-open_fenced-clause-small
returns-in-Ok-open_fenced-clause-small g c = λ few. absurd (never_refused (c.in-Ok.core, c.in-Ok.findings) (NotAStore, c.args.disk) (c.in-Ok.ensures.small few))
