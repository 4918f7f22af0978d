use Rattle.std.proofs.Common.{ap, arith, inl, inr, subst, sym, ⊎_elim, ◌∙◌, ◌≡◌, ◌⊎◌}
use Rattle.cs_reader.specs.Openings.{IsWhyNotOpened}
use Rattle.cs_disk.specs.Disk.{Image, Rises, flushed, page, seen}
use Rattle.cs_mount.specs.Older.{older_on}
use Rattle.cs_mount.specs.OlderDisks.{left_lowered, moment_shown, shown_below, state_lowered}
use Rattle.cs_twin.specs.Paired.{disk_below}
use Rattle.cs_mount.proofs.Aged.{aged_by, dimensions_by, findings_by, older_here, older_later, some_there, two_by}
use Rattle.cs_mount.proofs.Ones.{two_none}
use Rattle.cs_mount.proofs.Opened.{opened_by}
use Rattle.cs_mount.proofs.mount_options.MountOptions.open_older.Goals as goal

pub show_older-requires-clause-sized : goal.show_older-requires-clause-sized
show_older-requires-clause-sized g c = c.in-Ok.ensures.sized ∙ sym c.in-Ok.ensures.disk.pages

pub returns-in-Ok-open-clause-image : goal.returns-in-Ok-open-clause-image
returns-in-Ok-open-clause-image g c = λ h.
    let D = g.D.PageDisk in
    let disk = c.args.disk in
    let reads = c.in-Ok.ensures.disk in
    let later = reads.honesty.0 h in
    let some = dimensions_by (D.page_count c.find_older.new.disk) (D.page_count disk) (D.state c.find_older.new.disk) (D.state disk) c.in-Ok.geometry reads.pages (reads.same h) (c.in-Ok.ensures.found h) in
    let shows = c.in-Ok-show_older.ensures.shown later some ∙ aged_by (D.page_count c.find_older.new.disk) (D.page_count disk) (D.state c.find_older.new.disk) (D.state disk) reads.pages (reads.same h) in
    let image = c.in-Ok-open.ensures.image (c.in-Ok-show_older.ensures.honest.0 later) in
    (image.0 ∙ ap seen shows, image.1 ∙ ap flushed shows)

pub returns-in-Ok-open-clause-store : goal.returns-in-Ok-open-clause-store
returns-in-Ok-open-clause-store g c =
    opened_by (g.D.PageDisk.honest c.in-Ok-show_older.older.disk.disk) (g.D.PageDisk.honest c.args.disk) c.in-Ok-open.core.opened c.in-Ok-open.core.found c.in-Ok-open.core.store
    (λ h. c.in-Ok-show_older.ensures.honest.0 (c.in-Ok.ensures.disk.honesty.0 h)) c.in-Ok-open.ensures.store

pub returns-in-Ok-open-clause-there : goal.returns-in-Ok-open-clause-there
returns-in-Ok-open-clause-there g c = λ h. some_there _ c.in-Ok.geometry (c.in-Ok.ensures.found h)

pub returns-in-Ok-open-clause-findings : goal.returns-in-Ok-open-clause-findings
returns-in-Ok-open-clause-findings g c = λ h.
    let D = g.D.PageDisk in
    let reads = c.in-Ok.ensures.disk in
    c.in-Ok-show_older.ensures.findings (reads.honesty.0 h) ∙ findings_by (D.page_count c.find_older.new.disk) (D.page_count c.args.disk) (D.state c.find_older.new.disk) (D.state c.args.disk) reads.pages (reads.same h)

pub returns-in-Ok-open-clause-unwritten : goal.returns-in-Ok-open-clause-unwritten
returns-in-Ok-open-clause-unwritten g c = λ h.
    let reads = c.in-Ok.ensures.disk in
    let later = reads.honesty.0 h in
    c.in-Ok-open.ensures.unwritten (c.in-Ok-show_older.ensures.honest.0 later) ∙ ap flushed (c.in-Ok-show_older.ensures.unwritten later) ∙ ap flushed (reads.same h)

pub returns-in-Err-open-clause-unwritten : goal.returns-in-Err-open-clause-unwritten
returns-in-Err-open-clause-unwritten g c = λ h.
    let D = g.D.PageDisk in
    let disk = c.args.disk in
    let reads = c.in-Ok.ensures.disk in
    let later = reads.honesty.0 h in
    let once = c.in-Ok-show_older.ensures.unwritten later ∙ ap flushed (reads.same h) in
    let opened = c.in-Err-open.ensures.unwritten (c.in-Ok-show_older.ensures.honest.0 later) in
    subst (λ (below : _). (D.state below ≡ D.state disk) ⊎ (D.state below ≡ flushed (D.state disk))) (sym (c.into_disk-in-Err-open.ensures ∙ ap (λ p. disk_below p) c.into_disk.ensures))
    (inr (⊎_elim (λ same. same ∙ once) (λ again. again ∙ ap flushed once) opened))

pub returns-in-Err-show_older-clause-unwritten : goal.returns-in-Err-show_older-clause-unwritten
returns-in-Err-show_older-clause-unwritten g c = λ h.
    let same = c.in-Ok.ensures.disk.same h in
    ⊎_elim (λ stays. inl (stays ∙ same)) (λ flush. inr (flush ∙ ap flushed same)) (c.in-Err-show_older.ensures.unwritten (c.in-Ok.ensures.disk.honesty.0 h))

pub returns-in-Ok-open-clause-honest : goal.returns-in-Ok-open-clause-honest
returns-in-Ok-open-clause-honest g c =
    let reads = c.in-Ok.ensures.disk in (
      (λ h. c.in-Ok-open.ensures.honest.0 (c.in-Ok-show_older.ensures.honest.0 (reads.honesty.0 h))),
      (λ h. reads.honesty.1 (c.in-Ok-show_older.ensures.honest.1 (c.in-Ok-open.ensures.honest.1 h))),
    )

pub returns-in-Ok-open-clause-pages : goal.returns-in-Ok-open-clause-pages
returns-in-Ok-open-clause-pages g c = c.in-Ok-open.ensures.pages ∙ c.in-Ok-show_older.ensures.pages ∙ c.in-Ok.ensures.disk.pages

pub returns-in-Ok-open-clause-calls : goal.returns-in-Ok-open-clause-calls
returns-in-Ok-open-clause-calls g c = λ h.
    let reads = c.in-Ok.ensures.disk in
    let later = reads.honesty.0 h in
    omega (arith, c.in-Ok-open.ensures.calls (c.in-Ok-show_older.ensures.honest.0 later), c.in-Ok-show_older.ensures.calls later, reads.still h)

pub returns-in-Err-clause-refusals : goal.returns-in-Err-clause-refusals
returns-in-Err-clause-refusals g c = λ h. ⊎_elim (λ none. inl none) (λ not. inr (inl not)) (c.in-Err.ensures.none h)

pub returns-in-Err-show_older-clause-refusals : goal.returns-in-Err-show_older-clause-refusals
returns-in-Err-show_older-clause-refusals g c = λ h.
    let D = g.D.PageDisk in
    let reads = c.in-Ok.ensures.disk in
    let n = D.page_count c.args.disk in
    let s = D.state c.args.disk in
    ⊎_elim (λ none. inl none)
    (λ two. inr (inl (two.0, two_none n (seen s) (two_by (D.page_count c.find_older.new.disk) n (D.state c.find_older.new.disk) s reads.pages (reads.same h) two.1))))
    (c.in-Err-show_older.ensures.none (reads.honesty.0 h))

pub returns-in-Err-open-clause-refusals : goal.returns-in-Err-open-clause-refusals
returns-in-Err-open-clause-refusals g c = λ h.
    let D = g.D.PageDisk in
    let disk = c.args.disk in
    let reads = c.in-Ok.ensures.disk in
    let later = reads.honesty.0 h in
    let r = c.in-Err-open.refusal in
    let n = D.page_count disk in
    let image = older_on n (seen (D.state disk)) in
    let below = disk_below (shown_below c.in-Ok-show_older.older) in
    let some = dimensions_by (D.page_count c.find_older.new.disk) n (D.state c.find_older.new.disk) (D.state disk) c.in-Ok.geometry reads.pages (reads.same h) (c.in-Ok.ensures.found h) in
    let shows = c.in-Ok-show_older.ensures.shown later some ∙ aged_by (D.page_count c.find_older.new.disk) n (D.state c.find_older.new.disk) (D.state disk) reads.pages (reads.same h) in
    ⊎_elim (λ none. inl none)
    (λ why. inr (inr (subst (λ m. IsWhyNotOpened m (page image) r) (c.in-Ok-show_older.ensures.pages ∙ reads.pages) (subst (λ (i : Image). IsWhyNotOpened (D.page_count below) (page i) r) (ap seen shows) why))))
    (c.in-Err-open.ensures.refusals (c.in-Ok-show_older.ensures.honest.0 later))

pub returns-in-Err-show_older-clause-number : goal.returns-in-Err-show_older-clause-number
returns-in-Err-show_older-clause-number g c = ⊎_elim (λ none. inl none) (λ not. inr (inr not)) c.in-Err-show_older.ensures.refusals

pub returns-in-Err-open-clause-cause : goal.returns-in-Err-open-clause-cause
returns-in-Err-open-clause-cause g c = λ is.
    let D = g.D.PageDisk in
    let rises = c.in-Err-open.ensures.cause is in
    let none = c.in-Ok-show_older.ensures.unrefused in
    let still = (c.in-Err-open.ensures.sound c.in-Ok-show_older.ensures.sound).1 in
    subst (λ (below : _). Rises (D.failure_count c.args.disk) (D.failure_count below)) (sym (c.into_disk-in-Err-open.ensures ∙ ap (λ p. disk_below p) c.into_disk.ensures))
    (omega (arith, rises, none.0, none.1, still, c.in-Ok-show_older.ensures.failures, c.in-Ok.ensures.disk.failures))

pub returns-in-Ok-open-clause-crash : goal.returns-in-Ok-open-clause-crash
returns-in-Ok-open-clause-crash g c = λ h left past.
    let D = g.D.PageDisk in
    let disk = c.args.disk in
    let mid = c.find_older.new.disk in
    let older = c.in-Ok-show_older.older in
    let new = c.in-Ok-open.core.disk in
    let reads = c.in-Ok.ensures.disk in
    let later = reads.honesty.0 h in
    let calls = c.in-Ok-show_older.ensures.calls later in
    let some = dimensions_by (D.page_count mid) (D.page_count disk) (D.state mid) (D.state disk) c.in-Ok.geometry reads.pages (reads.same h) (c.in-Ok.ensures.found h) in
    older_here (D.page_count mid) (D.page_count disk) (D.state mid) (D.state disk) left reads.pages (reads.same h)
    (older_later moment_shown left_lowered (D.page_count mid) (D.state mid) older new (D.moment mid) (state_lowered older) left (c.in-Ok-show_older.ensures.shown later some) (omega (arith, calls))
    (c.in-Ok-show_older.ensures.left later some) (c.in-Ok-open.ensures.crash (c.in-Ok-show_older.ensures.honest.0 later)) (subst (λ t. left_lowered new t left) (sym (reads.still h)) past))
