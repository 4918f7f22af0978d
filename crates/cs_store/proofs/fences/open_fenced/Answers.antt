use Rattle.std.proofs.Common.{None, Some, ℕ, [], ap, inl, refl, subst, sym, ⊎_elim, ◌∙◌, ◌≡◌, ◌⊎◌}
use Rattle.std.specs.List.{AllByRecursion}
use Rattle.cs_chunk.specs.Reads.{IsNoAnswer}
use Rattle.cs_disk.specs.Disk.{Image, MayLeave, Rises, page, seen}
use Rattle.cs_frame.specs.Formats.{formats_of}
use Rattle.cs_frame.specs.Geometries.{section_size}
use Rattle.cs_mount.proofs.Opened.{opened_by}
use Rattle.cs_mount.specs.Showing.{shown_on}
use Rattle.cs_mount.specs.StorePairs.{store_version}
use Rattle.cs_reader.specs.Openings.{IsWhyNotOpened}
use Rattle.cs_twin.specs.Findings.{finding_in, passed_over}
use Rattle.cs_twin.specs.Paired.{disk_below, failures_of, left_as_shown, moment_of, pairs_of, refusals_of, state_shown, versions_of}
use Rattle.cs_twin.specs.Pairs.{fence, shown}
use Rattle.law_machine.specs.Geometry.{shape_of}
use Rattle.law_machine.specs.Recovery.{Recovers}
use Rattle.cs_store.proofs.Fenced.{kept_alike, kept_still, leaves_then, none_mapped, same_left}
use Rattle.cs_store.proofs.Readied.{rises_below, rises_from}
use Rattle.cs_store.proofs.fences.open_fenced.Goals as goal

pub returns-in-Ok-open-clause-store : goal.returns-in-Ok-open-clause-store
returns-in-Ok-open-clause-store g c =
    opened_by (g.D.PageDisk.honest c.in-Ok.disk.disk) (g.D.PageDisk.honest (disk_below c.args.core.disk)) c.in-Ok-open.again.opened c.in-Ok-open.again.found c.in-Ok-open.again.store c.in-Ok.ensures.honest.0 c.in-Ok-open.ensures.store

pub returns-in-Ok-open-clause-recovers : goal.returns-in-Ok-open-clause-recovers
returns-in-Ok-open-clause-recovers g c = λ h format extents pages sections geometry sized n m recovers.
    let S = shape_of extents pages sections (section_size extents sections) format in
    c.in-Ok-open.ensures.recovers (c.in-Ok.ensures.honest.0 h) format extents pages sections geometry (c.in-Ok.ensures.pages ∙ sized) n m
    (subst (λ (image : Image). Recovers S (formats_of S) (page image) n m) (sym (c.in-Ok.ensures.shown h)) recovers)

pub returns-in-Ok-open-clause-fenced : goal.returns-in-Ok-open-clause-fenced
returns-in-Ok-open-clause-fenced g c = λ h.
    let core = c.args.core in
    subst (λ (image : Image). AllByRecursion (λ x. passed_over (finding_in (versions_of core.disk) image x) ≡ None) (pairs_of core.disk)) (sym (ap seen (c.in-Ok-open.ensures.unwritten (c.in-Ok.ensures.honest.0 h)))) (c.in-Ok.ensures.fenced h)

pub returns-in-Ok-open-clause-crash : goal.returns-in-Ok-open-clause-crash
returns-in-Ok-open-clause-crash g c = λ h.
    let before = state_shown c.args.core.disk in
    let after = state_shown c.in-Ok.disk in
    leaves_then moment_of left_as_shown c.args.core.disk c.in-Ok.disk c.in-Ok-open.again.disk (MayLeave before) (MayLeave after)
    (λ image left. same_left before after image (none_mapped _ _ (c.in-Ok.ensures.durable h)) (c.in-Ok.ensures.shown h) left) (c.in-Ok.ensures.crash h) (c.in-Ok-open.ensures.crash (c.in-Ok.ensures.honest.0 h))

pub returns-in-Err-open-clause-recovers : goal.returns-in-Err-open-clause-recovers
returns-in-Err-open-clause-recovers g c = λ h format extents pages sections geometry sized n m recovers.
    let S = shape_of extents pages sections (section_size extents sections) format in
    c.in-Err-open.ensures.recovers (c.in-Ok.ensures.honest.0 h) format extents pages sections geometry (c.in-Ok.ensures.pages ∙ sized) n m
    (subst (λ (image : Image). Recovers S (formats_of S) (page image) n m) (sym (c.in-Ok.ensures.shown h)) recovers)

pub returns-in-Err-open-clause-kept : goal.returns-in-Err-open-clause-kept
returns-in-Err-open-clause-kept g c = λ h image long some shows.
    let D = g.D.PageDisk in
    let n = D.page_count (disk_below c.args.core.disk) in
    let p = c.in-Ok.disk in
    let hp = c.in-Ok.ensures.honest.0 h in
    let still = kept_still n image long some (D.page_count p.disk) p.rules.geometry p.pairs.items (D.state p.disk) c.in-Ok.ensures.pages p.apart (g.met.D.PageDisk.sized p.disk hp) (p.right hp).newer (p.fit hp).allowed (p.fit hp).durable
    (c.in-Ok.ensures.shown h ∙ ap seen shows) in
    let same : seen (D.state c.in-Err-open.disk.disk) ≡ seen (D.state p.disk) = ⊎_elim (λ stays. ap seen stays) (λ flush. ap seen flush) (c.in-Err-open.ensures.unwritten hp) in
    subst (λ (below : _). shown_on n (seen (D.state below)) ≡ shown_on n image) (sym c.into_disk.ensures) (ap (shown_on n) same ∙ still)

pub returns-in-Err-open-clause-refusals : goal.returns-in-Err-open-clause-refusals
returns-in-Err-open-clause-refusals g c = λ h.
    let D = g.D.PageDisk in
    let r = c.in-Err-open.refusal in
    subst (λ n. IsNoAnswer r ⊎ IsWhyNotOpened n (page (seen (state_shown c.args.core.disk))) r) c.in-Ok.ensures.pages
    (subst (λ (image : Image). IsNoAnswer r ⊎ IsWhyNotOpened (D.page_count c.in-Ok.disk.disk) (page image) r) (c.in-Ok.ensures.shown h) (c.in-Err-open.ensures.refusals (c.in-Ok.ensures.honest.0 h)))

pub returns-in-Err-clause-kept : goal.returns-in-Err-clause-kept
returns-in-Err-clause-kept g c = λ h image long some shows.
    let D = g.D.PageDisk in
    let n = D.page_count (disk_below c.args.core.disk) in
    let p = c.in-Err.disk in
    let hp = c.in-Err.ensures.honest.0 h in
    subst (λ (below : _). shown_on n (seen (D.state below)) ≡ shown_on n image) (sym c.into_disk-in-Err.ensures)
    (kept_still n image long some (D.page_count p.disk) p.rules.geometry p.pairs.items (D.state p.disk) c.in-Err.ensures.pages p.apart (g.met.D.PageDisk.sized p.disk hp) (p.right hp).newer (p.fit hp).allowed (p.fit hp).durable
    (c.in-Err.ensures.shown h ∙ ap seen shows))

pub returns-in-Err-clause-refusals : goal.returns-in-Err-clause-refusals
returns-in-Err-clause-refusals g c = λ h. inl c.in-Err.ensures.refusals

pub returns-in-Ok-open-clause-image : goal.returns-in-Ok-open-clause-image
returns-in-Ok-open-clause-image g c = λ h.
    let again = c.in-Ok-open.ensures.image (c.in-Ok.ensures.honest.0 h) in
    let same = c.in-Ok.ensures.shown h in
    (again.0 ∙ same, again.1 ∙ ap (λ (image : Image). record { durable = image; volatile = [] }) same)

pub returns-in-Err-clause-recovers : goal.returns-in-Err-clause-recovers
returns-in-Err-clause-recovers g c = λ h format extents pages sections geometry sized n m recovers. c.in-Err.ensures.refusals

pub returns-in-Ok-open-clause-filled : goal.returns-in-Ok-open-clause-filled
returns-in-Ok-open-clause-filled g c = λ h.
    let core = c.args.core in
    subst (λ (image : Image). AllByRecursion (λ x. (number : ℕ) → passed_over (finding_in (versions_of core.disk) (seen (g.D.PageDisk.state (disk_below core.disk))) x) ≡ Some number → page image number ≡ fence) (pairs_of core.disk))
    (sym (ap seen (c.in-Ok-open.ensures.unwritten (c.in-Ok.ensures.honest.0 h)))) (c.in-Ok.ensures.filled h)

pub returns-in-Ok-open-clause-untouched : goal.returns-in-Ok-open-clause-untouched
returns-in-Ok-open-clause-untouched g c = λ h number none.
    ap (λ (image : Image). page image number) (ap seen (c.in-Ok-open.ensures.unwritten (c.in-Ok.ensures.honest.0 h))) ∙ c.in-Ok.ensures.untouched h number none

pub returns-in-Err-open-clause-cause : goal.returns-in-Err-open-clause-cause
returns-in-Err-open-clause-cause g c = λ sound none is.
    let D = g.D.PageDisk in
    let old = c.args.core.disk in
    let p = c.in-Err-open.disk in
    let still = (c.in-Err-open.ensures.sound (c.in-Ok.ensures.sound sound)).1 in
    let rises = rises_from (failures_of old) (failures_of c.in-Ok.disk) (failures_of p) c.in-Ok.ensures.later (c.in-Err-open.ensures.cause is) in
    subst (λ (below : _). Rises (D.failure_count old.disk) (D.failure_count below)) (sym c.into_disk.ensures)
    (rises_below (D.failure_count old.disk) (D.failure_count p.disk) (refusals_of old) (refusals_of p) none (still ∙ c.in-Ok.ensures.unrefused sound ∙ none) rises)

pub returns-in-Err-clause-cause : goal.returns-in-Err-clause-cause
returns-in-Err-clause-cause g c = λ sound none is.
    let D = g.D.PageDisk in
    let old = c.args.core.disk in
    let p = c.in-Err.disk in
    subst (λ (below : _). Rises (D.failure_count old.disk) (D.failure_count below)) (sym c.into_disk-in-Err.ensures)
    (rises_below (D.failure_count old.disk) (D.failure_count p.disk) (refusals_of old) (refusals_of p) none (c.in-Err.ensures.unrefused sound ∙ none) (c.in-Err.ensures.cause is))

pub returns-in-Err-open-clause-crash_refused : goal.returns-in-Err-open-clause-crash_refused
returns-in-Err-open-clause-crash_refused g c = λ h image long some shows t left le past.
    let D = g.D.PageDisk in
    let core = c.args.core in
    let n = D.page_count (disk_below core.disk) in
    let mid = c.in-Ok.disk in
    let p = c.in-Err-open.disk in
    let before = state_shown core.disk in
    let hm = c.in-Ok.ensures.honest.0 h in
    let hp = c.in-Err-open.ensures.honest.0 hm in
    let calls = leaves_then moment_of left_as_shown core.disk mid p (MayLeave before) (MayLeave (state_shown mid))
    (λ c' was. same_left before (state_shown mid) c' (none_mapped _ _ (c.in-Ok.ensures.durable h)) (c.in-Ok.ensures.shown h) was) (c.in-Ok.ensures.crash h) (c.in-Err-open.ensures.crash hm) in
    let still : seen (state_shown p) ≡ seen (state_shown mid) = ⊎_elim (λ stays. ap seen stays) (λ flush. ap seen flush) (c.in-Err-open.ensures.kept hm) in
    let alike = kept_alike n image long some (D.page_count p.disk) p.rules.geometry p.pairs.items (D.state p.disk) (c.in-Err-open.ensures.pages ∙ c.in-Ok.ensures.pages) p.apart (g.met.D.PageDisk.sized p.disk hp) (p.right hp).newer
    (p.fit hp).allowed (p.fit hp).durable (still ∙ c.in-Ok.ensures.shown h ∙ ap seen shows) left in
    let now : D.left_since p.disk t left = subst (λ (below : _). D.left_since below t left) c.into_disk.ensures past in
    subst (λ (z : Image). left_as_shown core.disk t z ⊎ MayLeave before z) alike (calls.before t (shown (store_version p.rules.geometry) p.pairs.items left) le (left, now, refl))

pub returns-in-Err-clause-crash_refused : goal.returns-in-Err-clause-crash_refused
returns-in-Err-clause-crash_refused g c = λ h image long some shows t left le past.
    let D = g.D.PageDisk in
    let core = c.args.core in
    let n = D.page_count (disk_below core.disk) in
    let p = c.in-Err.disk in
    let hp = c.in-Err.ensures.honest.0 h in
    let alike = kept_alike n image long some (D.page_count p.disk) p.rules.geometry p.pairs.items (D.state p.disk) c.in-Err.ensures.pages p.apart (g.met.D.PageDisk.sized p.disk hp) (p.right hp).newer (p.fit hp).allowed (p.fit hp).durable
    (c.in-Err.ensures.shown h ∙ ap seen shows) left in
    let now : D.left_since p.disk t left = subst (λ (below : _). D.left_since below t left) c.into_disk-in-Err.ensures past in
    subst (λ (z : Image). left_as_shown core.disk t z ⊎ MayLeave (state_shown core.disk) z) alike ((c.in-Err.ensures.crash h).before t (shown (store_version p.rules.geometry) p.pairs.items left) le (left, now, refl))
