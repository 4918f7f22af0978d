use Rattle.std.proofs.Common.{ap, arith, inl, inr, le_trans, length, mul-le-mul_left, ◌*◌, ◌≤◌, refl, subst, sym, ⊎_elim, ◌∙◌, ◌≡◌, ◌⊎◌}
use Rattle.cs_core.specs.cs_chunk.Reads.{IsNoAnswer}
use Rattle.cs_reader.specs.Openings.{IsWhyNotOpened}
use Rattle.cs_disk.proofs.Images.{length-applied}
use Rattle.cs_disk.specs.Disk.{Image, MayLeave, flushed, page, seen}
use Rattle.cs_frame.specs.Formats.{formats_of}
use Rattle.cs_frame.proofs.GeometryLaws.{bounds, pages_on_device}
use Rattle.cs_frame.specs.Geometries.{section_size}
use Rattle.law_machine.specs.Geometry.{shape_of}
use Rattle.law_machine.specs.Recovery.{Recovers}
use Rattle.cs_twin.specs.Paired.{left_as_shown, moment_of, state_shown}
use Rattle.cs_twin.specs.Pairs.{shown}
use Rattle.cs_mount.specs.Showing.{ShowsOn, shown_on}
use Rattle.cs_mount.specs.StorePairs.{dimensions_on, pairs_where, store_version}
use Rattle.cs_mount.proofs.Lying.{shown_alike, still_durable}
use Rattle.cs_mount.proofs.Mounting.{shows_before, shows_later}
use Rattle.cs_mount.proofs.Opened.{opened_by}
use Rattle.cs_mount.proofs.mount_options.MountOptions.open.Goals as goal

pub returns-in-Ok-open-clause-image : goal.returns-in-Ok-open-clause-image
returns-in-Ok-open-clause-image g c = λ h.
    let image = c.in-Ok-open.ensures.image (c.in-Ok.ensures.honest.0 h) in
    let shows = c.in-Ok.ensures.shown h in
    (image.0 ∙ ap seen shows, image.1 ∙ ap flushed shows)

pub returns-in-Ok-open-clause-store : goal.returns-in-Ok-open-clause-store
returns-in-Ok-open-clause-store g c =
    opened_by (g.D.PageDisk.honest c.in-Ok.paired.disk) (g.D.PageDisk.honest c.args.disk) c.in-Ok-open.core.opened c.in-Ok-open.core.found c.in-Ok-open.core.store c.in-Ok.ensures.honest.0 c.in-Ok-open.ensures.store

pub returns-in-Ok-open-clause-recovers : goal.returns-in-Ok-open-clause-recovers
returns-in-Ok-open-clause-recovers g c = λ h one format extents pages sections geometry sized n m recovers.
    let S = shape_of extents pages sections (section_size extents sections) format in
    c.in-Ok-open.ensures.recovers (c.in-Ok.ensures.honest.0 h) format extents pages sections geometry (c.in-Ok.ensures.pages ∙ sized) n m
    (subst (λ (image : Image). Recovers S (formats_of S) (page image) n m) (sym (ap seen (c.in-Ok.ensures.shown h))) recovers)

pub returns-in-Ok-open-clause-crash : goal.returns-in-Ok-open-clause-crash
returns-in-Ok-open-clause-crash g c = λ h left past.
    let D = g.D.PageDisk in
    let disk = c.args.disk in
    let found = dimensions_on (D.page_count disk) (seen (D.state disk)) in
    shows_later moment_of left_as_shown (store_version found) (pairs_where found) (D.state disk) c.in-Ok.paired c.in-Ok-open.core.disk (D.moment disk) (state_shown c.in-Ok.paired) left
    (c.in-Ok.ensures.shown h) (c.in-Ok.ensures.crash h).later (c.in-Ok.ensures.left h) (c.in-Ok-open.ensures.crash (c.in-Ok.ensures.honest.0 h)) past

pub returns-in-Err-open-clause-recovers : goal.returns-in-Err-open-clause-recovers
returns-in-Err-open-clause-recovers g c = λ h one format extents pages sections geometry sized n m recovers.
    let S = shape_of extents pages sections (section_size extents sections) format in
    c.in-Err-open.ensures.recovers (c.in-Ok.ensures.honest.0 h) format extents pages sections geometry (c.in-Ok.ensures.pages ∙ sized) n m
    (subst (λ (image : Image). Recovers S (formats_of S) (page image) n m) (sym (ap seen (c.in-Ok.ensures.shown h))) recovers)

pub returns-in-Err-clause-recovers : goal.returns-in-Err-clause-recovers
returns-in-Err-clause-recovers g c = λ h one format extents pages sections geometry sized n m recovers. ⊎_elim (λ none. none) (λ two. absurd (two.1 one)) (c.in-Err.ensures.why h)

pub returns-in-Err-clause-refusals : goal.returns-in-Err-clause-refusals
returns-in-Err-clause-refusals g c = λ h. ⊎_elim (λ none. inl none) (λ two. inr (inl two)) (c.in-Err.ensures.why h)

pub returns-in-Err-open-clause-refusals : goal.returns-in-Err-open-clause-refusals
returns-in-Err-open-clause-refusals g c = λ h.
    let D = g.D.PageDisk in
    let disk = c.args.disk in
    let r = c.in-Err-open.refusal in
    ⊎_elim (λ none. inl none) (λ why. inr (inr why))
    (subst (λ n. IsNoAnswer r ⊎ IsWhyNotOpened n (page (shown_on (D.page_count disk) (seen (D.state disk)))) r) c.in-Ok.ensures.pages
    (subst (λ (image : Image). IsNoAnswer r ⊎ IsWhyNotOpened (D.page_count c.in-Ok.paired.disk) (page image) r) (ap seen (c.in-Ok.ensures.shown h)) (c.in-Err-open.ensures.refusals (c.in-Ok.ensures.honest.0 h))))

pub returns-then-pages-lt10-clause-recovers : goal.returns-then-pages-lt10-clause-recovers
returns-then-pages-lt10-clause-recovers g c = λ h one format extents pages sections geometry sized n m recovers.
    let many : extents * 2 ≤ extents * pages = mul-le-mul_left extents geometry.fewest_pages in
    let four = (bounds format extents pages sections geometry).fewest_extents in
    absurd (omega (arith, many, four, geometry.fewest_sections, pages_on_device format extents pages sections geometry, c.if-pages-lt10.true, c.pages.ensures, sized))

pub returns-in-Err-clause-two : goal.returns-in-Err-clause-two
returns-in-Err-clause-two g c = λ h two. (c.in-Err.ensures.number, c.in-Err.ensures.two h two)

pub returns-in-Ok-open-clause-two : goal.returns-in-Ok-open-clause-two
returns-in-Ok-open-clause-two g c = λ h two. two (c.in-Ok.ensures.one h)

pub returns-in-Err-open-clause-two : goal.returns-in-Err-open-clause-two
returns-in-Err-open-clause-two g c = λ h two. absurd (two (c.in-Ok.ensures.one h))

pub returns-in-Ok-open-clause-unwritten : goal.returns-in-Ok-open-clause-unwritten
returns-in-Ok-open-clause-unwritten g c = λ h. c.in-Ok-open.ensures.unwritten (c.in-Ok.ensures.honest.0 h) ∙ ap flushed (c.in-Ok.ensures.state h)

pub returns-in-Err-open-clause-unwritten : goal.returns-in-Err-open-clause-unwritten
returns-in-Err-open-clause-unwritten g c = λ h.
    let D = g.D.PageDisk in
    let disk = c.args.disk in
    let once = c.in-Ok.ensures.state h in
    subst (λ (below : _). (D.state below ≡ D.state disk) ⊎ (D.state below ≡ flushed (D.state disk))) (sym c.into_disk.ensures)
    (inr (⊎_elim (λ same. same ∙ once) (λ again. again ∙ ap flushed once) (c.in-Err-open.ensures.unwritten (c.in-Ok.ensures.honest.0 h))))

pub returns-in-Ok-open-clause-before : goal.returns-in-Ok-open-clause-before
returns-in-Ok-open-clause-before g c = λ h t left le past.
    let D = g.D.PageDisk in
    let disk = c.args.disk in
    let found = dimensions_on (D.page_count disk) (seen (D.state disk)) in
    shows_before moment_of left_as_shown (store_version found) (pairs_where found) (D.state disk) (D.left_since disk t) c.in-Ok.paired c.in-Ok-open.core.disk t (state_shown c.in-Ok.paired) left
    (c.in-Ok.ensures.shown h) (le_trans le (c.in-Ok.ensures.crash h).later) (λ image was. c.in-Ok.ensures.before h t image le was) (c.in-Ok-open.ensures.crash (c.in-Ok.ensures.honest.0 h)) past

pub returns-in-Ok-open-clause-sound : goal.returns-in-Ok-open-clause-sound
returns-in-Ok-open-clause-sound g c =
    let still = c.in-Ok-open.ensures.sound c.in-Ok.ensures.sound in
    (still.0, still.1 ∙ c.in-Ok.ensures.refusals)

pub returns-in-Ok-open-clause-later : goal.returns-in-Ok-open-clause-later
returns-in-Ok-open-clause-later g c =
    let still = c.in-Ok-open.ensures.sound c.in-Ok.ensures.sound in
    omega (arith, c.failures.ensures, c.in-Ok.ensures.failures, c.in-Ok.ensures.refusals, still.1, c.in-Ok-open.ensures.later)

-- ---- what a crash leaves where it is refused

pub returns-in-Err-open-clause-crash_refused : goal.returns-in-Err-open-clause-crash_refused
returns-in-Err-open-clause-crash_refused g c = λ h some left past.
    let D = g.D.PageDisk in
    let disk = c.args.disk in
    let n = D.page_count disk in
    let s = D.state disk in
    let found = dimensions_on n (seen s) in
    let old = c.in-Ok.paired in
    let new = c.in-Err-open.paired in
    let before = c.in-Ok.ensures.honest.0 h in
    let now : D.left_since new.disk (D.moment disk) left = subst (λ (below : _). D.left_since below (D.moment disk) left) c.into_disk.ensures past in
    let long : length (seen s) ≡ n = length-applied s.durable s.volatile ∙ g.met.D.PageDisk.sized disk h in
    let shows = still_durable (shown_on n (seen s)) (state_shown old) (state_shown new) (c.in-Ok.ensures.shown h) (c.in-Err-open.ensures.kept before) in
    let alike = shown_alike n (seen s) long some (D.page_count new.disk) new.rules.geometry new.pairs.items (D.state new.disk).durable (c.in-Err-open.ensures.pages ∙ c.in-Ok.ensures.pages)
    (new.fit (c.in-Err-open.ensures.honest.0 before)).durable shows left in
    subst (λ (image : Image). ShowsOn n (seen s) (MayLeave s) image) alike
    (shows_later moment_of left_as_shown (store_version found) (pairs_where found) s old new (D.moment disk) (state_shown old) (shown (store_version new.rules.geometry) new.pairs.items left)
    (c.in-Ok.ensures.shown h) (c.in-Ok.ensures.crash h).later (c.in-Ok.ensures.left h) (c.in-Err-open.ensures.crash before) (left, now, refl))

pub returns-in-Err-clause-crash_refused : goal.returns-in-Err-clause-crash_refused
returns-in-Err-clause-crash_refused g c = λ h some left past. (left, (c.in-Err.ensures.crash h).each left past, refl)

pub returns-then-pages-lt10-clause-crash_refused : goal.returns-then-pages-lt10-clause-crash_refused
returns-then-pages-lt10-clause-crash_refused g c = λ h some left past. (left, g.met.D.PageDisk.only_now c.args.disk left h past, refl)
