-- Chunks of a put that are planned one after another, before any is appended.
use Rattle.std.proofs.Common.{◌≡◌, ◌∙◌, ◌↔◌, ℕ, suc, ◌+◌, ◌-◌, ◌^◌, ◌<◌, ◌≤◌, min, true, List, [], ◌∷◌, ◌++◌, length, drop, take, set, get_or, replicate, Option, Some, refl, sym, ap, subst, add-one, arith, length-set}
use Rattle.std.proofs.lemmas.List.{drop_all, take_more}
use Rattle.std.proofs.lemmas.Grind.{take-set_at}
use Rattle.std.specs.Prelude.{◌==◌, if◌then◌else◌}
use Rattle.std.proofs.Math.Seq.{drop-cons}
use Rattle.law_machine.specs.Device.{Shape}
use Rattle.law_machine.specs.Extents.{Extents, FitsBy, ForPut, GoesApart, taken_by}
use Rattle.law_machine.specs.Lists.{with}
use Rattle.law_machine.proofs.Places.{goes_one}
use Rattle.cs_extent.specs.declared.planned.Placement.{Placement}
use Rattle.cs_extent.specs.Planned.{after_planned, open_after_planned, pointers_after}
use Rattle.cs_extent.specs.Worn.{AreCountedBy, ArePlacedBy, in_section}
use Rattle.cs_extent.proofs.Changes.{zeros_at}
use Rattle.cs_extent.proofs.Worn.{count_more}

abbrev pub none_yet : Placement
none_yet = record { extent = 0; pointer = 0 }

-- ---- one more

pub pointers_more : (f : ℕ → ℕ) (planned : List Placement) (it : Placement) → pointers_after f (planned ++ it ∷ []) ≡ with (pointers_after f planned) it.extent it.pointer
pointers_more f [] it = refl
pointers_more f (first ∷ planned) it = pointers_more (with f first.extent first.pointer) planned it

pub open_more : (o : Option ℕ) (planned : List Placement) (it : Placement) → open_after_planned o (planned ++ it ∷ []) ≡ Some it.extent
open_more o [] it = refl
open_more o (first ∷ planned) it = open_more (Some first.extent) planned it

-- so are the extents after a chunk more what they are once it went there
pub after_more : (S : Shape) (x : Extents) (planned : List Placement) (it : Placement) (k : ℕ) → it.pointer ≡ (after_planned x planned).pointer it.extent + k
    → after_planned x (planned ++ it ∷ []) ≡ taken_by S true ForPut (after_planned x planned) it.extent k
after_more S x planned it k is = λ i. record {
  pointer = (pointers_more x.pointer planned it ∙ ap (with (pointers_after x.pointer planned) it.extent) is) i;
  generation = x.generation;
  reset = x.reset;
  open_extent = open_more x.open_extent planned it i;
  swept = x.swept;
  of_runs = x.of_runs;
  found = x.found;
  fresh = x.fresh;
  last = x.last;
}

module _ (S : Shape) (x : Extents) (frames : List ℕ) (n : ℕ) (lt : n < length frames) where
  next_frame : drop n frames ≡ get_or frames n 0 ∷ drop (suc n) frames
  next_frame = drop-cons frames n 0 lt

  -- a chunk that fits has a place
  pub next_place : (planned : List Placement) → FitsBy S true (after_planned x planned) ForPut (drop n frames)
      → (e : ℕ) × GoesApart S (after_planned x planned) ForPut (get_or frames n 0) e
  next_place planned fits =
      let now = subst (λ (ks : List ℕ). FitsBy S true (after_planned x planned) ForPut ks) next_frame fits in (now.0, now.1)

  pub no_next : (planned : List Placement) → ((e : ℕ) → GoesApart S (after_planned x planned) ForPut (get_or frames n 0) e → ⊥)
      → FitsBy S true (after_planned x planned) ForPut (drop n frames) → ⊥
  no_next planned none fits = let at = next_place planned fits in none at.0 at.1

  module _ (planned : List Placement) (it : Placement) (goes : GoesApart S (after_planned x planned) ForPut (get_or frames n 0) it.extent)
      (is : it.pointer ≡ (after_planned x planned).pointer it.extent + get_or frames n 0) where
    abbrev after : Extents
    after = taken_by S true ForPut (after_planned x planned) it.extent (get_or frames n 0)

    then_is : after_planned x (planned ++ it ∷ []) ≡ after
    then_is = after_more S x planned it (get_or frames n 0) is

    -- the chunks that are left fit
    fits_then : FitsBy S true (after_planned x planned) ForPut (drop n frames) → FitsBy S true (after_planned x (planned ++ it ∷ [])) ForPut (drop (suc n) frames)
    fits_then fits =
        let now = subst (λ (ks : List ℕ). FitsBy S true (after_planned x planned) ForPut ks) next_frame fits in
        let one : now.0 ≡ it.extent = goes_one S true (after_planned x planned) ForPut (get_or frames n 0) now.0 it.extent now.1 goes in
        subst (λ (y : Extents). FitsBy S true y ForPut (drop (suc n) frames)) (sym then_is)
        (subst (λ (e : ℕ). FitsBy S true (taken_by S true ForPut (after_planned x planned) e (get_or frames n 0)) ForPut (drop (suc n) frames)) one now.2)

    -- they are placed behind it
    pub placed_then : (later : List ℕ) → ArePlacedBy S true (after_planned x (planned ++ it ∷ [])) ForPut (drop (suc n) frames) later
        → ArePlacedBy S true (after_planned x planned) ForPut (drop n frames) (it.extent ∷ later)
    placed_then later placed =
        subst (λ (ks : List ℕ). ArePlacedBy S true (after_planned x planned) ForPut ks (it.extent ∷ later)) (sym next_frame)
        (goes, subst (λ (y : Extents). ArePlacedBy S true y ForPut (drop (suc n) frames) later) then_is placed)

-- the same in a list of which the first n stand
pub pointer_next : (f : ℕ → ℕ) (planned : List Placement) (i e p : ℕ) → i < length planned → p ≡ pointers_after f (take i planned) e
    → (if e == (get_or planned i none_yet).extent then (get_or planned i none_yet).pointer else p) ≡ pointers_after f (take (i + 1) planned) e
pointer_next f planned i e p lt was =
    ap (λ (q : ℕ). if e == (get_or planned i none_yet).extent then (get_or planned i none_yet).pointer else q) was
    ∙ sym (ap (λ (ps : List Placement). pointers_after f ps e) (take_more planned i none_yet lt)
    ∙ ap (λ (g : ℕ → ℕ). g e) (pointers_more f (take i planned) (get_or planned i none_yet)))

pub open_next : (o : Option ℕ) (planned : List Placement) (i : ℕ) → i < length planned
    → Some (get_or planned i none_yet).extent ≡ open_after_planned o (take (i + 1) planned)
open_next o planned i lt =
    sym (ap (open_after_planned o) (take_more planned i none_yet lt) ∙ open_more o (take i planned) (get_or planned i none_yet))

-- ---- counts

-- So many of the chunks are planned, and the versions that they take are counted. If all fit, those that are left do;
-- and wherever these go, the counts with theirs are those of all.
pub record IsPlanned (S : Shape) (x : Extents) (frames : List ℕ) (n : ℕ) (planned : List Placement) (counts : List ℕ) : Type 0 where
  pub left : FitsBy S true x ForPut frames → FitsBy S true (after_planned x planned) ForPut (drop n frames)
  pub size : length counts ≡ 15
  pub all : (later : List ℕ) → ArePlacedBy S true (after_planned x planned) ForPut (drop n frames) later
      → (places : List ℕ) × ArePlacedBy S true x ForPut frames places
      × ((j a : ℕ) → j < 15 → (2 ^ 63 ≤ a + in_section S j places) ↔ (2 ^ 63 ≤ a + (get_or counts j 0 + in_section S j later)))

pub planned_none : (S : Shape) (x : Extents) (frames : List ℕ) → IsPlanned S x frames 0 [] (replicate 15 0)
planned_none S x frames = record {
  left = λ fits. fits;
  size = refl;
  all = λ later placed. (later, placed, (λ j a lt. let none : get_or {A = ℕ} (replicate 15 0) j 0 ≡ 0 = zeros_at 15 j in ((λ h. omega (arith, h, none)), (λ h. omega (arith, h, none)))));
}

pub planned_more : (S : Shape) (x : Extents) (frames : List ℕ) (n : ℕ) → n < length frames → (planned : List Placement) (counts : List ℕ)
    → IsPlanned S x frames n planned counts → (it : Placement) → GoesApart S (after_planned x planned) ForPut (get_or frames n 0) it.extent
    → it.pointer ≡ (after_planned x planned).pointer it.extent + get_or frames n 0
    → (section : ℕ) → section ≡ S.section it.extent → section < 15
    → (more : List ℕ) → more ≡ set counts section (min (get_or counts section 0 + 1) (2 ^ 64 - 1))
    → IsPlanned S x frames (suc n) (planned ++ it ∷ []) more
planned_more S x frames n lt planned counts was it goes is section of small more same = record {
  left = λ fits. fits_then S x frames n lt planned it goes is (was.left fits);
  size = ap length same ∙ length-set counts section (min (get_or counts section 0 + 1) (2 ^ 64 - 1)) ∙ was.size;
  all = λ later placed.
      let rest = was.all (it.extent ∷ later) (placed_then S x frames n lt planned it goes is later placed) in (
        rest.0,
        rest.1,
        (λ j a inside.
            let before = rest.2 j a inside in
            let law = count_more S counts more section it.extent of (omega (arith, small, was.size)) same later j a in
            ((λ h. law.0 (before.0 h)), (λ h. before.1 (law.1 h)))),
      );
}

pub planned_next : (S : Shape) (x : Extents) (frames : List ℕ) (n : ℕ) → n < length frames → (planned : List Placement) (counts : List ℕ)
    → IsPlanned S x frames n (take n planned) counts → (it : Placement) → n < length planned
    → GoesApart S (after_planned x (take n planned)) ForPut (get_or frames n 0) it.extent
    → it.pointer ≡ (after_planned x (take n planned)).pointer it.extent + get_or frames n 0
    → (section : ℕ) → section ≡ S.section it.extent → section < 15
    → (more : List ℕ) → more ≡ set counts section (min (get_or counts section 0 + 1) (2 ^ 64 - 1))
    → IsPlanned S x frames (n + 1) (take (n + 1) (set planned n it)) more
planned_next S x frames n lt planned counts was it room goes is section at small more same =
    let here : take (n + 1) (set planned n it) ≡ take n planned ++ it ∷ [] = take-set_at planned n (n + 1) it refl room in
    subst (λ (ps : List Placement). IsPlanned S x frames (n + 1) ps more) (sym here)
    (subst (λ (m : ℕ). IsPlanned S x frames m (take n planned ++ it ∷ []) more) (sym (add-one n))
    (planned_more S x frames n lt (take n planned) counts was it goes is section at small more same))

pub planned_all : (S : Shape) (x : Extents) (frames : List ℕ) (n : ℕ) (planned : List Placement) (counts : List ℕ) → IsPlanned S x frames n planned counts
    → length frames ≤ n → AreCountedBy S true x ForPut frames counts
planned_all S x frames n planned counts was le =
    let none : drop n frames ≡ [] = drop_all n frames le in
    let rest = was.all [] (subst (λ (ks : List ℕ). ArePlacedBy S true (after_planned x planned) ForPut ks []) (sym none) tt) in (
      rest.0,
      rest.1,
      (λ j a lt.
          let law = rest.2 j a lt in
          let nothing : in_section S j [] ≡ 0 = refl in
          ((λ h. let up = law.0 h in omega (arith, up, nothing)), (λ h. law.1 (omega (arith, h, nothing))))),
    )
