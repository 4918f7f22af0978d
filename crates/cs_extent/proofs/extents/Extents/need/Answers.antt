use Rattle.std.proofs.Common.{◌≡◌, ◌∙◌, ◌+◌, List, ℕ, ap, arith, get_or, length}
use Rattle.cs_frame.specs.Geometries.{section_length, section_start}
use Rattle.cs_extent.specs.Frames.{greatest}
use Rattle.cs_extent.specs.State.{State}
use Rattle.cs_extent.specs.contracts.extents.Extents.{the_view}
use Rattle.cs_extent.proofs.Sections.{end_inside}
use Rattle.cs_extent.proofs.extents.Extents.need.Goals as goal

pub greatest_of-requires : goal.greatest_of-requires
greatest_of-requires c =
    let s : State = the_view c.self.inside in
    let inside = rw (← c.self.view_is) at c.requires in
    let start : c.section_start-start.result ≡ section_start (length s.written) s.sections c.args.section = c.section_start-start.ensures ∙ ap (λ (n : ℕ). section_start n s.sections c.args.section) c.self.invariant.extents in
    let count : c.section_length-count.result ≡ section_length (length s.written) s.sections c.args.section = c.section_length-count.ensures ∙ ap (λ (n : ℕ). section_length n s.sections c.args.section) c.self.invariant.extents in
    omega (arith, start, count, end_inside s.format (length s.written) s.pages s.sections c.args.section c.self.invariant.whole.geometry inside, c.self.invariant.whole.all_resets, ap length c.deref.ensures.value)

pub returns : goal.returns
returns c =
    let s : State = the_view c.self.inside in
    let start : c.section_start-start.result ≡ section_start (length s.written) s.sections c.args.section = c.section_start-start.ensures ∙ ap (λ (n : ℕ). section_start n s.sections c.args.section) c.self.invariant.extents in
    let count : c.section_length-count.result ≡ section_length (length s.written) s.sections c.args.section = c.section_length-count.ensures ∙ ap (λ (n : ℕ). section_length n s.sections c.args.section) c.self.invariant.extents in
    rw (← c.self.view_is) (c.greatest_of.ensures
    ∙ ap (λ (xs : List ℕ). greatest (λ i. get_or xs (c.section_start-start.result + i) 0) c.section_length-count.result) c.deref.ensures.value
    ∙ ap (λ (n : ℕ). greatest (λ i. get_or s.resets (n + i) 0) c.section_length-count.result) start
    ∙ ap (λ (n : ℕ). greatest (λ i. get_or s.resets (section_start (length s.written) s.sections c.args.section + i) 0) n) count)
