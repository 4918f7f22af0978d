use Rattle.std.proofs.Common.{◌∙◌, ◌≡◌, ◌+◌, arith, ap, length, get_or, refl, subst, sym, ◌≤◌, ℕ, List, Some}
use Rattle.cs_deps.specs.declared.elements.Element.{Element}
use Rattle.cs_deps.specs.Named.{Names}
use Rattle.cs_deps.specs.State.{write_of}
use Rattle.law_machine.specs.Extents.{Extents, taken_by}
use Rattle.law_machine.specs.Geometry.{pages_first_in}
use Rattle.std.specs.Prelude.{◌↔◌}
use Rattle.cs_frame.specs.Geometries.{section_length, section_start}
use Rattle.cs_frame.specs.Superblocks.{FitsRecord}
use Rattle.law_machine.specs.Device.{Shape}
use Rattle.cs_frame.proofs.GeometryLaws.{bounds}
use Rattle.cs_extent.specs.Frames.{AddsOnlyOf, IsOfFrame, IsVersionUpTo, IsWorn, family_of, next_section, root_family, root_recorded}
use Rattle.cs_extent.specs.Purposes.{reason_of}
use Rattle.cs_extent.specs.State.{SpellsExtents, State, extents_of, need_of, shape}
use Rattle.cs_extent.specs.Appended.{IsAppended}
use Rattle.cs_frame.specs.declared.locators.Locator.{Locator}
use Rattle.cs_extent.proofs.Appending.{still_ready}
use Rattle.cs_extent.proofs.Changes.{greatest_within}
use Rattle.cs_extent.proofs.Staged.{family_inside, family_small, fresh, framed, written_pages}
use Rattle.cs_extent.proofs.extents.Extents.give.Goals as goal

pub last_version-version-requires : goal.last_version-version-requires
last_version-version-requires c =
    omega (arith, c.section_family-family.ensures, c.requires.ready.families, family_inside (shape c.args.self.now).sections c.frame_place-place.result.section c.frame_place-place.ensures.inside)

pub recorded-recorded-requires : goal.recorded-recorded-requires
recorded-recorded-requires c = omega (arith, c.requires.ready.families, c.frame_place-place.ensures.inside)

pub section_bytes-bytes-requires-clause-record : goal.section_bytes-bytes-requires-clause-record
section_bytes-bytes-requires-clause-record c =
    subst (λ (S : Shape). FitsRecord S.format c.recorded-recorded.result) (sym c.take.ensures.shape) c.recorded-recorded.ensures.fits

pub stage_frame-requires-clause-families : goal.stage_frame-requires-clause-families
stage_frame-requires-clause-families c =
    omega (arith, c.requires.ready.families, family_inside (shape c.args.self.now).sections c.frame_place-place.result.section c.frame_place-place.ensures.inside)

pub stage_frame-requires-clause-version : goal.stage_frame-requires-clause-version
stage_frame-requires-clause-version c =
    (fresh c.args.graph.now.staging c.frame_place-place.result.section (length c.args.frame.now)
    (λ worn. c.requires.numbers (subst (λ (j : ℕ). IsWorn c.args.graph.now.staging j (length c.args.frame.now)) c.frame_place-place.ensures.section worn))).1

pub stage_frame-requires-clause-need : goal.stage_frame-requires-clause-need
stage_frame-requires-clause-need c =
    let s : State = c.args.self.now in
    let start : ℕ = section_start (length s.written) s.sections c.frame_place-place.result.section in
    let within : need_of s c.frame_place-place.result.section ≤ get_or c.args.graph.now.staging.latest root_family 0 =
    greatest_within (λ i. (extents_of s).reset (start + i)) (section_length (length s.written) s.sections c.frame_place-place.result.section) (get_or c.args.graph.now.staging.latest root_family 0) (λ i. c.requires.ready.resets (start + i)) in
    omega (arith, c.frame_place-place.ensures.need, within)

pub on_versions-requires : goal.on_versions-requires
on_versions-requires c =
    omega (arith, c.section_family-family.ensures, family_small c.frame_place-place.result.section, c.frame_place-place.ensures.inside, (bounds _ _ _ _ c.frame_place-place.ensures.whole.geometry).most_sections)

pub returns-clause-appended : goal.returns-clause-appended
returns-clause-appended c =
    let s : State = c.args.self.now in
    let latest : List ℕ = c.args.graph.now.staging.latest in
    let number : c.last_version-version.result + 1 ≡ get_or latest (family_of c.frame_place-place.result.section) 0 + 1 =
    ap (λ (n : ℕ). n + 1) (c.last_version-version.ensures ∙ ap (λ (f : ℕ). get_or latest f 0) c.section_family-family.ensures) in
    let spells : SpellsExtents c.take.new.self c.frame_place-place.result.section (get_or latest (family_of c.frame_place-place.result.section) 0 + 1) (root_recorded (shape s).format c.args.graph.now.staging) c.section_bytes-bytes.result =
    subst (λ (n : ℕ). SpellsExtents c.take.new.self c.frame_place-place.result.section (get_or latest (family_of c.frame_place-place.result.section) 0 + 1) n c.section_bytes-bytes.result) c.recorded-recorded.ensures.record
    (subst (λ (n : ℕ). SpellsExtents c.take.new.self c.frame_place-place.result.section n c.recorded-recorded.result c.section_bytes-bytes.result) number c.section_bytes-bytes.ensures) in
    subst (λ (l : Locator). IsAppended s c.args.graph.now (reason_of c.args.purpose) c.args.frame.now l c.take.new.self c.stage_frame.new.graph)
    (sym c.next_place-locator.ensures)
    (record {
      placed = c.requires.goes;
      place = refl;
      extents = c.take.ensures.extents;
      same_shape = c.take.ensures.shape;
      staged = framed c.args.graph.now.staging c.stage_frame.new.graph.staging s (pages_first_in c.frame_place-place.result.geometry.format) c.frame_place-place.result.geometry.sections c.frame_place-place.result.section ((shape s).section c.args.extent) (length c.args.frame.now) c.frame_place-place.result.root ((extents_of s).reset c.args.extent) c.frame_place-place.result.need
          c.stage_frame.ensures.staged (ap pages_first_in c.frame_place-place.ensures.format) c.frame_place-place.ensures.sections c.frame_place-place.ensures.section c.frame_place-place.ensures.root c.frame_place-place.ensures.need;
      writes = written_pages c.stage_frame.new.graph c.args.graph.now.staging.staged (length c.args.frame.now) (λ i. c.frame_place-place.result.first + i) (λ i. (shape s).address c.args.extent ((extents_of s).pointer c.args.extent + i)) c.args.frame.now (λ i. omega (arith, c.frame_place-place.ensures.first)) c.stage_frame.ensures.writes;
      section = subst (λ (j : ℕ). (page : List ℕ) × (write_of c.stage_frame.new.graph (next_section c.args.graph.now.staging j) ≡ Some ((shape s).section_page j, page)) × SpellsExtents c.take.new.self j (get_or latest (family_of j) 0 + 1) (root_recorded (shape s).format c.args.graph.now.staging) page)
          c.frame_place-place.ensures.section
          (c.section_bytes-bytes.result, c.stage_frame.ensures.write ∙ ap (λ (n : ℕ). Some (n, c.section_bytes-bytes.result)) c.frame_place-place.ensures.page, spells);
      others = subst (λ (j : ℕ). AddsOnlyOf c.args.graph.now c.stage_frame.new.graph (IsOfFrame c.args.graph.now.staging j (length c.args.frame.now))) c.frame_place-place.ensures.section c.stage_frame.ensures.others;
      round = c.stage_frame.ensures.round;
    })

pub returns-clause-dependency : goal.returns-clause-dependency
returns-clause-dependency c =
    let latest : List ℕ = c.args.graph.now.staging.latest in
    subst (λ (j : ℕ). (x : Element) → Names c.on_versions.result x ↔ IsVersionUpTo (family_of j) (get_or latest (family_of j) 0 + 1) x) c.frame_place-place.ensures.section
    (subst (λ (f : ℕ). (x : Element) → Names c.on_versions.result x ↔ IsVersionUpTo f (get_or latest f 0 + 1) x) c.section_family-family.ensures
    (subst (λ (n : ℕ). (x : Element) → Names c.on_versions.result x ↔ IsVersionUpTo c.section_family-family.result n x) (ap (λ (n : ℕ). n + 1) c.last_version-version.ensures) c.on_versions.ensures.names))

pub returns-clause-ready : goal.returns-clause-ready
returns-clause-ready c =
    let new : Extents = extents_of c.take.new.self in
    let same : new ≡ taken_by (shape c.args.self.now) (shape c.args.self.now).apart (reason_of c.args.purpose) (extents_of c.args.self.now) c.args.extent (length c.args.frame.now) = c.take.ensures.extents in
    still_ready c.args.self.now c.take.new.self c.args.graph.now.staging c.stage_frame.new.graph.staging
    (pages_first_in c.frame_place-place.result.geometry.format) c.frame_place-place.result.geometry.sections c.frame_place-place.result.section (length c.args.frame.now) c.frame_place-place.result.root c.frame_place-place.result.need
    c.take.ensures.shape (λ e. ap (λ (x : Extents). x.reset e) same) c.stage_frame.ensures.staged c.requires.ready
