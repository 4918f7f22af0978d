use Rattle.std.proofs.Common.{◌∙◌, ap, inl, inr, subst, sym, ⊎_elim}
use Rattle.cs_disk.specs.Disk.{Image, State, page, seen}
use Rattle.cs_frame.specs.Formats.{formats_of}
use Rattle.cs_frame.specs.Geometries.{section_size}
use Rattle.cs_mount.proofs.Opened.{opened_by}
use Rattle.cs_mount.specs.Remaking.{remade}
use Rattle.law_machine.specs.Geometry.{shape_of}
use Rattle.law_machine.specs.Recovery.{Recovers}
use Rattle.cs_store.proofs.Remaking.{fails_though, opened_remade}
use Rattle.cs_store.proofs.options.OpenOptions.open_remade.Goals as goal

pub returns-in-Err-clause-why : goal.returns-in-Err-clause-why
returns-in-Err-clause-why g c = λ h more d is view n m found has. ⊎_elim (λ none. inl none) (λ worn. inr (inl worn)) (c.in-Err.ensures.why h d is view n m found has)

pub returns-in-Ok-open-clause-store : goal.returns-in-Ok-open-clause-store
returns-in-Ok-open-clause-store g c =
    let core = c.in-Ok-open.store in
    opened_by (g.D.PageDisk.honest c.new.result.disk) (g.D.PageDisk.honest c.args.disk) core.opened core.found core.store
    (λ h. subst g.D.PageDisk.honest (sym c.new.ensures.below) (c.read_made.ensures.disk.honesty.0 h)) c.in-Ok-open.ensures.store

pub returns-in-Ok-open-clause-image : goal.returns-in-Ok-open-clause-image
returns-in-Ok-open-clause-image g c = λ h.
    let D = g.D.PageDisk in
    let now = c.read_made.ensures.disk.honesty.0 h in
    let there = subst D.honest (sym c.new.ensures.below) now in
    let writes = c.in-Ok.found.0.items in
    opened_remade (D.page_count c.new.result.disk) (D.page_count c.args.disk) _ (seen (D.state c.args.disk)) writes (ap D.page_count c.new.ensures.below ∙ c.read_made.ensures.disk.pages)
    (c.new.ensures.shown now ∙ ap (λ (z : State). remade writes (seen z)) (c.read_made.ensures.disk.same h)) (c.in-Ok.ensures.made h)
    c.in-Ok.found.1.items c.in-Ok-open.findings.items c.in-Ok-open.store.opened _ c.in-Ok.ensures.told (c.in-Ok-open.ensures.image there) (c.in-Ok-open.ensures.findings there)

pub returns-in-Ok-open-clause-map : goal.returns-in-Ok-open-clause-map
returns-in-Ok-open-clause-map g c = λ h format extents pages sections geometry size n m recovers.
    let D = g.D.PageDisk in
    let there = subst D.honest (sym c.new.ensures.below) (c.read_made.ensures.disk.honesty.0 h) in
    let S = shape_of extents pages sections (section_size extents sections) format in
    c.in-Ok-open.ensures.recovers there (c.in-Ok-open.ensures.one there) format extents pages sections geometry (ap D.page_count c.new.ensures.below ∙ c.read_made.ensures.disk.pages ∙ size) n m
    (subst (λ (i : Image). Recovers S (formats_of S) (page i) n m) (c.in-Ok-open.ensures.image there).0 recovers)

pub returns-in-Err-open-clause-why : goal.returns-in-Err-open-clause-why
returns-in-Err-open-clause-why g c = λ h more d is view n m found has.
    let D = g.D.PageDisk in
    let now = c.read_made.ensures.disk.honesty.0 h in
    let there = subst D.honest (sym c.new.ensures.below) now in
    let writes = c.in-Ok.found.0.items in
    fails_though (D.page_count c.new.result.disk) (D.page_count c.args.disk) _ (seen (D.state c.args.disk)) writes (ap D.page_count c.new.ensures.below ∙ c.read_made.ensures.disk.pages)
    (c.new.ensures.shown now ∙ ap (λ (z : State). remade writes (seen z)) (c.read_made.ensures.disk.same h)) (c.in-Ok.ensures.made h)
    c.in-Err-open.refusal _ (c.in-Err-open.ensures.refusals there)
