use Rattle.std.proofs.Common.{◌≡◌, ◌∙◌, ℕ, Some, length, refl, slice_get, subst, sym}
use Rattle.std.proofs.lemmas.Bool.{true≢false}
use Rattle.std.proofs.lemmas.Option.{slice_get_read}
use Rattle.cs_frame.specs.Geometries.{IsGeometry}
use Rattle.cs_extent.proofs.Sections.{rows_are_all}
use Rattle.cs_extent.proofs.recorded_extents.geometry_of.Goals as goal

pub returns-clause-format : goal.returns-clause-format
returns-clause-format c =
    let at : slice_get c.args.sections.now 0 ≡ Some c.index-sections-0.result = slice_get_read c.args.sections.now (length c.args.sections.now) 0 c.index-sections-0.result refl c.requires.some c.index-sections-0.is in
    let first = c.requires.each 0 c.index-sections-0.result at in
    c.in-Ok.ensures.format ∙ first.of_format

pub returns-clause-extents : goal.returns-clause-extents
returns-clause-extents c =
    let at : slice_get c.args.sections.now 0 ≡ Some c.index-sections-0.result = slice_get_read c.args.sections.now (length c.args.sections.now) 0 c.index-sections-0.result refl c.requires.some c.index-sections-0.is in
    let first = c.requires.each 0 c.index-sections-0.result at in
    c.in-Ok.ensures.extents ∙ c.from-extents.ensures ∙ first.of_extents ∙ sym (rows_are_all c.args.sections.now c.requires)

pub returns-clause-sections : goal.returns-clause-sections
returns-clause-sections c =
    let at : slice_get c.args.sections.now 0 ≡ Some c.index-sections-0.result = slice_get_read c.args.sections.now (length c.args.sections.now) 0 c.index-sections-0.result refl c.requires.some c.index-sections-0.is in
    let first = c.requires.each 0 c.index-sections-0.result at in
    c.in-Ok.ensures.sections ∙ c.from-sections.ensures ∙ first.of_sections

pub unreachable-requires : goal.unreachable-requires
unreachable-requires c =
    let at : slice_get c.args.sections.now 0 ≡ Some c.index-sections-0.result = slice_get_read c.args.sections.now (length c.args.sections.now) 0 c.index-sections-0.result refl c.requires.some c.index-sections-0.is in
    let geometry = (c.requires.each 0 c.index-sections-0.result at).is.geometry in
    let same : IsGeometry c.index-sections-0.result.format c.from-extents.result c.from-pages.result c.from-sections.result =
    subst (λ (n : ℕ). IsGeometry c.index-sections-0.result.format n c.from-pages.result c.from-sections.result) (sym c.from-extents.ensures)
    (subst (λ (n : ℕ). IsGeometry c.index-sections-0.result.format c.index-sections-0.result.extent_count n c.from-sections.result) (sym c.from-pages.ensures)
    (subst (λ (n : ℕ). IsGeometry c.index-sections-0.result.format c.index-sections-0.result.extent_count c.index-sections-0.result.pages n) (sym c.from-sections.ensures) geometry)) in
    true≢false (sym (c.in-Err.ensures.valid.1 same))
