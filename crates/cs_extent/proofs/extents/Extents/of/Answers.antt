use Rattle.std.proofs.Common.{◌∙◌, ◌≡◌, ◌≤◌, ap, ℕ, List, replicate, false, zero, length, arith, sym, subst, get_or}
use Rattle.std.specs.List.{AllByRecursion}
use Rattle.law_machine.specs.Format.{Format}
use Rattle.law_machine.specs.Geometry.{apart_in}
use Rattle.cs_frame.specs.Geometries.{IsGeometry}
use Rattle.cs_extent.specs.Sections.{format_of, pages_of, rows_of}
use Rattle.cs_extent.specs.State.{found_at}
use Rattle.cs_extent.proofs.Changes.{found_length, found_within, whole_new}
use Rattle.cs_extent.proofs.Sections.{rows_are_within, rows_geometry}
use Rattle.cs_extent.proofs.extents.Extents.of.Goals as goal

pub invariant_of-result : goal.invariant_of-result
invariant_of-result c =
    let g = c.geometry_of-geometry.result in
    let e = c.geometry_of-geometry.ensures in
    let xs : List (ℕ × ℕ) = c.in_ok-written.written.items in
    let same : xs ≡ rows_of c.args.sections.now = c.in_ok-written.ensures in
    let is : IsGeometry g.format (length xs) g.pages g.sections =
    subst (λ (f : Format). IsGeometry f (length xs) g.pages g.sections) (sym e.format)
    (subst (λ (n : ℕ). IsGeometry (format_of c.args.sections.now) (length xs) g.pages n) (sym e.sections)
    (subst (λ (n : ℕ). IsGeometry (format_of c.args.sections.now) (length xs) n (length c.args.sections.now)) (sym e.pages)
    (subst (λ (ys : List (ℕ × ℕ)). IsGeometry (format_of c.args.sections.now) (length ys) (pages_of c.args.sections.now) (length c.args.sections.now)) (sym same) (rows_geometry c.args.sections.now c.requires)))) in
    let all : AllByRecursion (λ (x : ℕ × ℕ). x.0 ≤ g.pages) xs =
    subst (λ (n : ℕ). AllByRecursion (λ (x : ℕ × ℕ). x.0 ≤ n) xs) (sym e.pages)
    (subst (λ (ys : List (ℕ × ℕ)). AllByRecursion (λ (x : ℕ × ℕ). x.0 ≤ pages_of c.args.sections.now) ys) (sym same) (rows_are_within c.args.sections.now c.requires)) in
    let first : c.len.result ≡ length xs = omega (arith, c.len.ensures, c.in_ok-written.written.ok.0) in
    let second : c.len-2.result ≡ length xs = omega (arith, c.len-2.ensures, c.in_ok-written.written.ok.0) in
    let third : c.len-3.result ≡ length xs = omega (arith, c.len-3.ensures, c.in_ok-written.written.ok.0) in
    record {
      extents = e.extents ∙ ap length (sym same);
      whole = whole_new g.format g.pages g.sections xs is all c.in_ok-resets.resets.items c.in_ok-swept.swept.items c.in_ok-of_runs.of_runs.items c.in_ok-found.found.items
          (c.in_ok-resets.ensures.items_if_clones_equal (λ y h. h) ∙ ap (λ (n : ℕ). replicate n zero) first)
          (c.in_ok-swept.ensures.items_if_clones_equal (λ y h. h) ∙ ap (λ (n : ℕ). replicate n false) second)
          (c.in_ok-of_runs.ensures.items_if_clones_equal (λ y h. h) ∙ ap (λ (n : ℕ). replicate n false) third)
          (ap length c.in_ok-found.ensures ∙ found_length (apart_in c.format.result) c.deref.result.now ∙ ap length c.deref.ensures.value)
          (λ d. subst (λ (fs : List ℕ). get_or fs d 0 ≤ (get_or xs d (0, 0)).0) (sym c.in_ok-found.ensures)
          (subst (λ (ys : List (ℕ × ℕ)). get_or (found_at (apart_in c.format.result) c.deref.result.now) d 0 ≤ (get_or ys d (0, 0)).0) c.deref.ensures.value
          (found_within (apart_in c.format.result) c.deref.result.now d)));
    }
