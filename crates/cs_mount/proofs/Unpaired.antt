-- A page of a store's device that is no half of a pair is one of frames, or spare.
use Rattle.std.proofs.Common.{◌≡◌, ◌≢◌, ◌⊎◌, inl, inr, ⊎_elim, if◌then◌else◌, ◌==◌, ℕ, zero, suc, ◌+◌, ◌-◌, ◌*◌, ◌<◌, ◌≤◌, Bool, true, false, List, [], Some, length, slice_get, map, nat_lt, sym, ◌∙◌, ap, subst, arith}
use Rattle.std.proofs.lemmas.Bool.{cases_lt}
use Rattle.std.proofs.lemmas.Bool.Decides.{nat_tests}
use Rattle.std.specs.List.{range_with_len}
use Rattle.cs_disk.specs.Disk.{Image, MayLeave, State, kept}
use Rattle.cs_disk.proofs.Images.{length-applied}
use Rattle.cs_frame.specs.Geometries.{Dimensions, IsGeometry}
use Rattle.law_machine.specs.Device.{FramePage, RootPage, SectionPage}
use Rattle.law_machine.specs.Geometry.{twins_in}
use Rattle.cs_twin.specs.declared.pairs.Pair.{Pair}
use Rattle.cs_twin.specs.Pairs.{ArePairs, AreNoOlder, Versions, shown, shown_state}
use Rattle.cs_mount.specs.StorePairs.{pages_of, store_pair, store_pairs, store_shape}
use Rattle.cs_twin.specs.Tears.{IsTornBeside, IsUnpaired}
use Rattle.cs_mount.specs.TornStores.{IsSpare, IsTornFrom}
use Rattle.cs_twin.proofs.Shown.{length-shown}
use Rattle.cs_twin.proofs.Tearing.{MaySpoil, torn_shows}
use Rattle.cs_mount.proofs.Twins.{are_store_pairs, high}

-- an element of a list that is made of its places is there
made_there : {A : Type 0} (f : ℕ → A) (a n k : ℕ) → k < n → slice_get (map f (range_with_len a n)) k ≡ Some (f (a + k))
made_there f a zero k lt = absurd (omega (arith, lt))
made_there f a (suc n) zero lt = ap (λ m. Some (f m)) (omega arith)
made_there f a (suc n) (suc k) lt = made_there f (a + 1) n k (omega (arith, lt)) ∙ ap (λ m. Some (f m)) (omega arith)

-- what lies on a page that is none of the first two, and not behind the frames
frame_between : (frames p : ℕ) → p ≢ 0 → p ≢ 1 → p < 2 + frames
    → (if p == 0 then SectionPage 0 else if p == 1 then RootPage else if nat_lt p (2 + frames) then FramePage else SectionPage (p - (1 + frames))) ≡ FramePage
frame_between frames p zeroth first lt = grind (arith, nat_tests)

module _ (d : Dimensions) (g : IsGeometry d.format d.extents d.pages d.sections) (twins : twins_in d.format ≡ true) where
  pub listed_pairs : store_pairs d ≡ map (store_pair d) (range_with_len 0 (1 + d.sections))
  listed_pairs = ap (λ (b : Bool). if b then map (store_pair d) (range_with_len 0 (1 + d.sections)) else []) twins

  pub pair_there : (k : ℕ) → k ≤ d.sections → slice_get (store_pairs d) k ≡ Some (store_pair d k)
  pair_there k le =
      let zeroth : 0 + k ≡ k = omega arith in
      ap (λ (l : List Pair). slice_get l k) listed_pairs ∙ made_there (store_pair d) 0 (1 + d.sections) k (omega (arith, le)) ∙ ap (λ (m : ℕ). Some (store_pair d m)) zeroth

  module _ (p : ℕ) (inside : p < pages_of d) (unpaired : IsUnpaired (store_pairs d) p) where
    -- it is no page of a section
    after_sections : 2 + d.extents * d.pages ≤ p → d.extents * d.pages + d.sections < p
    after_sections behind = ⊎_elim
        (λ (own : p < 1 + d.extents * d.pages + d.sections).
        let k = p - d.extents * d.pages in
        absurd (unpaired k (store_pair d k) false (pair_there k (omega (arith, own, behind))) (sym (high (d.extents * d.pages) k (omega (arith, behind)) ∙ omega (arith, behind)))))
        (λ (after : 1 + d.extents * d.pages + d.sections ≤ p). omega (arith, after))
        (cases_lt p (1 + d.extents * d.pages + d.sections))

    -- and no twin
    before_twins : p + (1 + d.sections) < pages_of d
    before_twins = ⊎_elim
        (λ (before : p + (1 + d.sections) < pages_of d). before)
        (λ (twin : pages_of d ≤ p + (1 + d.sections)).
        let k = pages_of d - 1 - p in
        absurd (unpaired k (store_pair d k) true (pair_there k (omega (arith, inside, twin))) (omega (arith, inside))))
        (cases_lt (p + (1 + d.sections)) (pages_of d))

    pub is_frame : ((store_shape d).kind p ≡ FramePage) ⊎ IsSpare d p
    is_frame = ⊎_elim
        (λ (lt : p < 2 + d.extents * d.pages).
        inl (frame_between (d.extents * d.pages) p (λ e. unpaired 0 (store_pair d 0) false (pair_there 0 (omega arith)) e) (λ e. unpaired 1 (store_pair d 1) false (pair_there 1 g.fewest_sections) e) lt))
        (λ (behind : 2 + d.extents * d.pages ≤ p). inr (record { after_sections = after_sections behind; before_twins = before_twins }))
        (cases_lt p (2 + d.extents * d.pages))

  -- So what is torn beside the pairs of a store is torn in frames and spare pages.
  pub torn_frames : (disk : State) (left image : Image) → length left ≡ pages_of d → IsTornBeside (store_pairs d) disk left image → IsTornFrom d disk left image
  torn_frames disk left image sized torn = record {
    size = torn.size;
    each = λ p lt. ⊎_elim (λ same. inl same) (λ beside. inr (is_frame p (omega (arith, lt, sized)) beside.0, beside.1)) (torn.each p lt);
  }

  pub are_pairs : ArePairs (store_pairs d) (pages_of d)
  are_pairs = subst (λ (l : List Pair). ArePairs l (pages_of d)) (sym listed_pairs) (are_store_pairs d g twins)

  -- What a crash tears of a store's disk shows as what a crash of the disk as it shows might leave, but for pages of
  -- frames and spare ones that were being written.
  pub torn_store_shows : (V : Versions) (s : State) (image : Image) → length s.durable ≡ pages_of d → AreNoOlder V (store_pairs d) s → MaySpoil V (store_pairs d) s image
      → (left : Image) × MayLeave (shown_state V (store_pairs d) s) left × IsTornFrom d (shown_state V (store_pairs d) s) left (shown V (store_pairs d) image)
  torn_store_shows V s image sized newer tear =
      let pairs = store_pairs d in
      let torn = torn_shows V pairs s image (subst (λ n. ArePairs pairs n) (sym sized) are_pairs) newer tear in
      let size : length torn.0 ≡ pages_of d = ap (λ (l : Image). length l) torn.1.2 ∙ length-applied (shown V pairs s.durable) (kept torn.1.0 (shown_state V pairs s).volatile) ∙ length-shown V pairs s.durable ∙ sized in
      (torn.0, torn.1, torn_frames (shown_state V pairs s) torn.0 (shown V pairs image) size torn.2)

  -- the same of pairs that are those
  pub torn_pairs_show : (V : Versions) (pairs : List Pair) (s : State) (image : Image) → pairs ≡ store_pairs d → length s.durable ≡ pages_of d → AreNoOlder V pairs s → MaySpoil V (store_pairs d) s image
      → (left : Image) × MayLeave (shown_state V pairs s) left × IsTornFrom d (shown_state V pairs s) left (shown V (store_pairs d) image)
  torn_pairs_show V pairs s image these sized newer tear =
      subst (λ (l : List Pair). (left : Image) × MayLeave (shown_state V l s) left × IsTornFrom d (shown_state V l s) left (shown V (store_pairs d) image)) (sym these)
      (torn_store_shows V s image sized (subst (λ (l : List Pair). AreNoOlder V l s) these newer) tear)
