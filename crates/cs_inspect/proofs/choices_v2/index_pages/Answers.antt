use Rattle.std.proofs.Common.{◌∙◌, ◌≡◌, ap, ℕ, min}
use Rattle.cs_frame.specs.Frames.{page_count}
use Rattle.cs_frame.specs.Geometries.{weight_bytes}
use Rattle.law_machine.specs.Format.{Format}
use Rattle.law_machine.specs.Geometry.{most_weight_in}
use Rattle.law_machine.specs.Index.{names}
use Rattle.cs_index.specs.State.{index_of}
use Rattle.cs_inspect.proofs.choices_v2.index_pages.Goals as goal

pub returns-clause-pages : goal.returns-clause-pages
returns-clause-pages c =
    let format = c.args.extents.now.format in
    let most : c.most_weight.result ≡ most_weight_in format c.args.extents.now.pages
    = c.most_weight.ensures ∙ ap (λ (f : Format). most_weight_in f c.geometry-geometry.result.pages) c.geometry-geometry.ensures.format ∙ ap (most_weight_in format) c.geometry-geometry.ensures.pages in
    c.frame_pages.ensures ∙ ap page_count c.weight_bytes.ensures
    ∙ ap (λ (f : Format). page_count (weight_bytes f c.min-named.result)) (c.format.ensures.format ∙ c.geometry-geometry.ensures.format)
    ∙ ap (λ (n : ℕ). page_count (weight_bytes format n)) (c.min-named.ensures ∙ ap (λ (n : ℕ). min n c.most_weight.result) c.named_count.ensures.count ∙ ap (min (names (index_of c.args.index.now))) most)
