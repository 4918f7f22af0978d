use Rattle.std.proofs.Common.{◌∙◌, ◌+◌, ◌*◌, ◌==◌, ap, length, ℕ, if◌then◌else◌}
use Rattle.cs_extent.proofs.extents.Extents.frame_place.Goals as goal

pub returns-clause-page : goal.returns-clause-page
returns-clause-page c =
    c.section_page.ensures
    ∙ ap (λ (n : ℕ). if c.section-section.result == 0 then 0 else 1 + n * c.geometry-geometry.result.pages + c.section-section.result) c.geometry-geometry.ensures.extents
    ∙ ap (λ (n : ℕ). if c.section-section.result == 0 then 0 else 1 + length c.args.self.now.written * n + c.section-section.result) c.geometry-geometry.ensures.pages
