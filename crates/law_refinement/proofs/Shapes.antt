-- The shape of a store, and what the versions of its sections need of the root.
use Rattle.std.proofs.Common.{◌≡◌, ℕ, ◌+◌, ◌-◌, ◌<◌, ◌≤◌, length, le_trans, sym, ap, ap₂, ◌∙◌, subst, arith}
use Rattle.law_machine.specs.Device.{IsShape, Shape}
use Rattle.law_machine.specs.Frames.{IsFormat}
use Rattle.law_machine.proofs.Shapes.{is_shape}
use Rattle.cs_frame.proofs.FormatLaws.{is_format}
use Rattle.cs_frame.proofs.GeometryLaws.{geometry_apart, model_geometry, section_holds}
use Rattle.cs_frame.specs.Formats.{formats_of}
use Rattle.cs_frame.specs.Geometries.{IsGeometry, section_length, section_size, section_start}
use Rattle.cs_extent.specs.Frames.{greatest}
use Rattle.cs_extent.specs.State.{IsWhole, State, extents_of, need_of, shape}
use Rattle.cs_extent.proofs.Changes.{greatest_below, greatest_is}
use Rattle.cs_extent.proofs.Sections.{end_inside, section_is}

pub shape_of_store : (x : State) → IsGeometry x.format (length x.written) x.pages x.sections → IsShape (shape x)
shape_of_store x geometry = is_shape (length x.written) x.pages x.sections (section_size (length x.written) x.sections) x.format
    (model_geometry x.format (length x.written) x.pages x.sections geometry)
    (geometry_apart x.format (length x.written) x.pages x.sections geometry)

pub store_shape : (x : State) → IsWhole x → IsShape (shape x)
store_shape x whole = shape_of_store x whole.geometry

pub store_format : (x : State) → IsWhole x → IsFormat (shape x) (formats_of (shape x))
store_format x whole = is_format x.format (length x.written) x.pages x.sections whole.geometry

-- there is a section
pub some_sections : (x : State) → IsWhole x → 0 < (shape x).sections
some_sections x whole = whole.geometry.fewest_sections

-- a place in a part of a row
in_part : (start count d : ℕ) → start ≤ d → d < start + count → (start + (d - start) ≡ d) × (d - start < count)
in_part start count d low high = (omega arith, omega arith)

part_inside : (start count end i : ℕ) → start + count ≤ end → i < count → start + i < end
part_inside start count end i fits lt = omega arith

part_from : (start count i : ℕ) → i < count → (start ≤ start + i) × (start + i < start + count)
part_from start count i lt = (omega arith, omega arith)

-- what section j's next version needs of the root: the greatest version that goes with a last reset of one of its extents
module _ (x : State) (geometry : IsGeometry x.format (length x.written) x.pages x.sections) (j : ℕ) where
  abbrev first : ℕ
  first = section_start (length x.written) x.sections j

  abbrev many : ℕ
  many = section_length (length x.written) x.sections j

  pub need_reset : (d : ℕ) → d < length x.written → (shape x).section d ≡ j → (extents_of x).reset d ≤ need_of x j
  need_reset d lt at =
      let place = (section_holds x.format (length x.written) x.pages x.sections geometry d j lt).0 (section_is x d lt ∙ at) in
      let part = in_part first many d place.0 place.1 in
      subst (λ (n : ℕ). (extents_of x).reset n ≤ need_of x j) part.0
      (greatest_is (λ i. (extents_of x).reset (section_start (length x.written) x.sections j + i)) many (d - first) part.1)

  pub need_least : (q : ℕ) → j < x.sections → ((d : ℕ) → d < length x.written → (shape x).section d ≡ j → (extents_of x).reset d ≤ q) → need_of x j ≤ q
  need_least q there resets = greatest_below (λ i. (extents_of x).reset (section_start (length x.written) x.sections j + i)) many q below
    where
      below : (i : ℕ) → i < section_length (length x.written) x.sections j → (extents_of x).reset (section_start (length x.written) x.sections j + i) ≤ q
      below i lt =
          let inside : first + i < length x.written = part_inside first many (length x.written) i (end_inside x.format (length x.written) x.pages x.sections j geometry there) lt in
          let at = (section_holds x.format (length x.written) x.pages x.sections geometry (first + i) j inside).1 (part_from first many i lt) in
          resets (first + i) inside (sym (section_is x (first + i) inside) ∙ at)

-- extents of the same resets need the same
pub need_same : (x y : State) → shape y ≡ shape x → ((e : ℕ) → (extents_of y).reset e ≡ (extents_of x).reset e) → need_of y ≡ need_of x
need_same x y same resets = λ k. λ j. each j k
  where
    all : (extents_of y).reset ≡ (extents_of x).reset
    all = λ k. λ e. resets e k

    each : (j : ℕ) → need_of y j ≡ need_of x j
    each j = ap₂ (λ (n s : ℕ). greatest (λ i. (extents_of y).reset (section_start n s j + i)) (section_length n s j))
        (ap (λ (S : Shape). S.extents) same) (ap (λ (S : Shape). S.sections) same)
        ∙ ap (λ (f : ℕ → ℕ). greatest (λ i. f (section_start (length x.written) x.sections j + i)) (section_length (length x.written) x.sections j)) all

-- the greatest of greater numbers
greatest_more : (f g : ℕ → ℕ) (n : ℕ) → ((i : ℕ) → f i ≤ g i) → greatest f n ≤ greatest g n
greatest_more f g n each = greatest_below f n (greatest g n) (λ i lt. le_trans (each i) (greatest_is g n i lt))

-- extents of later resets need no less
pub need_more : (x y : State) → shape y ≡ shape x → ((e : ℕ) → (extents_of x).reset e ≤ (extents_of y).reset e) → (j : ℕ) → need_of x j ≤ need_of y j
need_more x y same resets j = subst (λ (n : ℕ). need_of x j ≤ n) counted
    (greatest_more (λ i. (extents_of x).reset (section_start (length x.written) x.sections j + i)) (λ i. (extents_of y).reset (section_start (length x.written) x.sections j + i))
    (section_length (length x.written) x.sections j) (λ i. resets (section_start (length x.written) x.sections j + i)))
  where
    counted : greatest (λ i. (extents_of y).reset (section_start (length x.written) x.sections j + i)) (section_length (length x.written) x.sections j) ≡ need_of y j
    counted = ap₂ (λ (n s : ℕ). greatest (λ i. (extents_of y).reset (section_start n s j + i)) (section_length n s j))
        (ap (λ (S : Shape). S.extents) (sym same)) (ap (λ (S : Shape). S.sections) (sym same))
