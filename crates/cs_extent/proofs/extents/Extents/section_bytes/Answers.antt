use Rattle.std.proofs.Common.{◌≡◌, ◌∙◌, ◌+◌, ◌-◌, ◌≤◌, List, ℕ, ap, arith, drop, length, subst, sym, take}
use Rattle.std.specs.List.{AllByRecursion}
use Rattle.cs_frame.specs.Geometries.{section_length, section_start}
use Rattle.cs_frame.specs.Superblocks.{SpellsSuperblock}
use Rattle.cs_extent.specs.State.{State, section_rows}
use Rattle.cs_extent.specs.contracts.extents.Extents.{the_view}
use Rattle.cs_extent.proofs.Changes.{all_pointers}
use Rattle.cs_extent.proofs.Sections.{all_in_part}
use Rattle.cs_extent.proofs.extents.Extents.section_bytes.Goals as goal

pub encode_section-requires-clause-pointers : goal.encode_section-requires-clause-pointers
encode_section-requires-clause-pointers c =
    let s : State = the_view c.self.inside in
    all_in_part (λ (x : ℕ × ℕ). x.0 ≤ s.pages) c.section_start-start.result (c.section_start-start.result + c.section_length.result - c.section_start-start.result) c.deref.result.now
    (subst (λ (xs : List (ℕ × ℕ)). AllByRecursion (λ (x : ℕ × ℕ). x.0 ≤ s.pages) xs) (sym c.deref.ensures.value) (all_pointers s.pages s.written c.self.invariant.whole.pointers))

pub returns : goal.returns
returns c =
    let s : State = the_view c.self.inside in
    let j : ℕ = c.args.section in
    let start : c.section_start-start.result ≡ section_start (length s.written) s.sections j = c.section_start-start.ensures ∙ ap (λ (n : ℕ). section_start n s.sections j) c.self.invariant.extents in
    let count : c.section_length.result ≡ section_length (length s.written) s.sections j = c.section_length.ensures ∙ ap (λ (n : ℕ). section_length n s.sections j) c.self.invariant.extents in
    let many : c.section_start-start.result + c.section_length.result - c.section_start-start.result ≡ section_length (length s.written) s.sections j = omega (arith, count) in
    let rows : take (c.section_start-start.result + c.section_length.result - c.section_start-start.result) (drop c.section_start-start.result c.deref.result.now) ≡ section_rows s j =
    ap (λ (xs : List (ℕ × ℕ)). take (c.section_start-start.result + c.section_length.result - c.section_start-start.result) (drop c.section_start-start.result xs)) c.deref.ensures.value
    ∙ ap (λ (n : ℕ). take n (drop c.section_start-start.result s.written)) many
    ∙ ap (λ (n : ℕ). take (section_length (length s.written) s.sections j) (drop n s.written)) start in
    rw (← c.self.view_is)
    (subst (λ (n : ℕ). SpellsSuperblock c.encode_section.result s.format c.args.version c.args.recorded n s.pages s.sections j (section_rows s j)) c.self.invariant.extents
    (subst (λ (xs : List (ℕ × ℕ)). SpellsSuperblock c.encode_section.result s.format c.args.version c.args.recorded c.self.inside.geometry.extents s.pages s.sections j xs) rows c.encode_section.ensures))
