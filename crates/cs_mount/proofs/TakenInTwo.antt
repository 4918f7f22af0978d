-- A disk over which a store of format 2 lies takes what the store's core has left to write.
use Rattle.std.proofs.Common.{◌≡◌, ⊎_elim, if◌then◌else◌, ◌==◌, ◌&&◌, ◌-◌, ℕ, ◌+◌, ◌<◌, Bool, true, false, not, List, [], Option, Some, None, length, map, slice_get, slice_index, refl, sym, ◌∙◌, ap, subst, arith, ne_eqb}
use denote.Struct.Props.{props}
use Rattle.std.proofs.Math.Logic.{∥∥₁_elim}
use Rattle.std.proofs.lemmas.Bool.{eqb-true}
use Rattle.std.specs.Prelude.{IfSome}
use Rattle.std.specs.List.{range_with_len}
use Rattle.cs_core.specs.law_refinement.Devices.{IsDiskOf}
use Rattle.cs_disk.specs.Disk.{State as DiskState, page, seen}
use Rattle.cs_frame.specs.FirstFormat.{spelled_first_format}
use Rattle.cs_frame.specs.Formats.{formats_of, is_first_format}
use Rattle.cs_frame.specs.Geometries.{Dimensions, IsGeometry}
use Rattle.cs_frame.specs.Superblocks.{spelled_superblock}
use Rattle.cs_frame.proofs.GeometryLaws.{pages_on_device}
use Rattle.law_machine.specs.Device.{Shape}
use Rattle.law_machine.specs.Disk.{page_write}
use Rattle.law_machine.specs.Element.{A_root, A_superblock, A_write, Element, Superblock}
use Rattle.law_machine.specs.Format.{Format, Four, Two}
use Rattle.law_machine.specs.Formats.{Formats}
use Rattle.law_machine.specs.Geometry.{twins_in}
use Rattle.law_machine.specs.Lists.{◌∈◌}
use Rattle.law_machine.specs.Sound.{Sound}
use Rattle.law_machine.specs.State.{State}
use Rattle.cs_twin.specs.declared.pairs.Pair.{Pair}
use Rattle.cs_twin.specs.Fences.{AreFenced}
use Rattle.cs_twin.specs.Kept.{TakesWrite}
use Rattle.cs_twin.specs.Pairs.{ArePairs, AreNoOlder, half, is_turned, shown, shown_state, version_at}
use Rattle.cs_twin.proofs.Roles.{shown_page-own}
use Rattle.cs_twin.proofs.Shown.{length-shown, page-shown}
use Rattle.cs_twin.proofs.Writing.{greatest}
use Rattle.cs_mount.specs.OfStores.{IsOfStore, is_allowed}
use Rattle.cs_mount.specs.StorePairs.{dimensions_on, pages_of, pairs_where, section_version, store_pair, store_pairs, store_shape, store_version}
use Rattle.cs_mount.proofs.Ones.{found_one}
use Rattle.cs_mount.proofs.Refinding.{first_pair}
use Rattle.cs_mount.proofs.Rising.{held_section}
use Rattle.cs_mount.proofs.Taken.{its_pairs, takes_its}
use Rattle.cs_mount.proofs.Telling.{found_third, said_by, said_third, says_version, version_says}

empty_at : {A : Type 0} (k : ℕ) (x : A) → slice_get [] k ≡ Some x → ⊥
empty_at k x at = cc

-- what a format without twins spells as a section isn't of format 4
two_digit : (f : Format) (number sections version recorded extents pages section : ℕ) (rows : List (ℕ × ℕ)) → twins_in f ≡ false
    → slice_index (if is_first_format f number sections then spelled_first_format version pages rows else spelled_superblock f version recorded extents pages sections section rows) 3 ≡ 52 → ⊥
two_digit (Four store device) number sections version recorded extents pages section rows other is = cc other
two_digit Two number sections version recorded extents pages section rows other is = by ((number == 1) && (sections == 1)) is
  where
    by : (b : Bool) → slice_index (if b then spelled_first_format version pages rows else spelled_superblock Two version recorded extents pages sections section rows) 3 ≡ 52 → ⊥
    by true is = let clash : 49 ≡ 52 = is in omega (arith, clash)
    by false is = let clash : 50 ≡ 52 = is in omega (arith, clash)

module _ (d : Dimensions) (g : IsGeometry d.format d.extents d.pages d.sections) (s : State) (sound : Sound (store_shape d) (formats_of (store_shape d)) s) (other : twins_in d.format ≡ false) where
  abbrev S : Shape
  S = store_shape d

  abbrev F : Formats
  F = formats_of (store_shape d)

  not_four : (u : Superblock) → slice_index (page_write S F (A_superblock u)).1 3 ≡ 52 → ⊥
  not_four u is = two_digit d.format u.format d.sections u.version u.recorded d.extents d.pages u.section _ other is

  -- what goes to page 0 is allowed there
  allowed : (m : Element) → m ∈ s.left → is_allowed (page_write S F m).0 (page_write S F m).1 ≡ true
  allowed (A_write x) has = ap (λ (t : Bool). not (t && slice_index x.bytes 3 == 52)) (ne_eqb x.page 0 (λ zeroth. let frame = sym (ap S.kind zeroth) ∙ sound.safe.frames x (sound.left (A_write x) has).0 in cc frame))
  allowed (A_superblock u) has = by (slice_index (page_write S F (A_superblock u)).1 3 == 52) refl (S.section_page u.section == 0)
    where
      by : (b : Bool) → (slice_index (page_write S F (A_superblock u)).1 3 == 52) ≡ b → (a : Bool) → not (a && b) ≡ true
      by false test true = refl
      by false test false = refl
      by true test a = absurd (not_four u (eqb-true _ _ test))
  allowed (A_root r) has = refl

  module _ (b : DiskState) (some : 0 < length b.durable) (store : Option Dimensions) (pairs : List Pair) (n : ℕ) (are : ArePairs pairs n) (on : IsDiskOf (store_shape d) (formats_of (store_shape d)) s (shown_state (store_version store) pairs b)) where
    -- page 0 shows no section of format 4
    shows_two : slice_index (page (shown (store_version store) pairs b.durable) 0) 3 ≡ 52 → ⊥
    shows_two is = not_four (sound.safe.exact.superblock 0)
        (ap (λ (bytes : List ℕ). slice_index bytes 3) (sym (on.durable 0 (let long = length-shown (store_version store) pairs b.durable in omega (arith, long, some)) ∙ held_section d g s sound 0 g.fewest_sections)) ∙ is)

    -- so no pair holds one
    no_first : (e : Dimensions) → store ≡ Some e → pairs ≡ store_pairs e → twins_in e.format ≡ true → dimensions_on n b.durable ≡ Some e → ⊥
    no_first e its lie twins there = shows_two (said_third (pages_of e) (page (shown (store_version store) pairs b.durable) 0) e (version_says e (page (shown (store_version store) pairs b.durable) 0) twins newest))
      where
        x : Pair
        x = store_pair e 0

        first_at : slice_get pairs 0 ≡ Some (store_pair e 0)
        first_at = ap (λ (l : List Pair). slice_get l 0) lie ∙ first_pair e twins

        shows : page (shown (store_version store) pairs b.durable) 0 ≡ page b.durable (half x (is_turned (store_version store) b.durable x))
        shows = page-shown (store_version store) pairs b.durable 0 some ∙ shown_page-own (store_version store) b.durable pairs n are 0 x first_at

        half_some : (twin : Bool) → 0 < section_version e 0 (page b.durable (half x twin)) → 0 < section_version e 0 (page (shown (store_version store) pairs b.durable) 0)
        half_some twin whole =
            let most = greatest (version_at (store_version (Some e)) b.durable x) twin in
            subst (λ (bytes : List ℕ). 0 < section_version e 0 bytes) (sym (shows ∙ ap (λ (o : Option Dimensions). page b.durable (half x (is_turned (store_version o) b.durable x))) its)) (omega (arith, most, whole))

        newest : 0 < section_version e 0 (page (shown (store_version store) pairs b.durable) 0)
        newest = ⊎_elim
            (λ first. half_some false (says_version e n (page b.durable 0) twins first))
            (λ last. half_some true (subst (λ (k : ℕ). 0 < section_version e 0 (page b.durable (k - 1))) (let sized = (found_third n b.durable e there).1 in sym sized) (says_version e n (page b.durable (n - 1)) twins last.1)))
            (said_by n b.durable e (found_one n b.durable e there).1)

    -- so it has no pairs
    pub no_pairs : ∥ IsOfStore store pairs n b.durable ∥₁ → pairs ≡ []
    no_pairs fits = let is_none : IsProp (pairs ≡ []) = hlevel props in ∥∥₁_elim fits is_none (λ of. by store refl of)
      where
        by_test : (e : Dimensions) (t : Bool) → twins_in e.format ≡ t → store ≡ Some e → IsOfStore store pairs n b.durable → pairs ≡ []
        by_test e true twins is of =
            let there = subst (λ (o : Option Dimensions). IfSome o (λ (it : Dimensions). twins_in it.format ≡ true → dimensions_on n b.durable ≡ Some it)) is of.there in
            absurd (no_first e is (of.its ∙ ap pairs_where is) twins (there twins))
        by_test e false not is of = of.its ∙ ap pairs_where is ∙ ap (λ (t : Bool). if t then map (store_pair e) (range_with_len 0 (1 + e.sections)) else []) not

        by : (o : Option Dimensions) → store ≡ o → IsOfStore store pairs n b.durable → pairs ≡ []
        by None is of = of.its ∙ ap pairs_where is
        by (Some e) is of = by_test e (twins_in e.format) refl is of

    -- and takes what is left to write
    pub takes_two : ∥ IsOfStore store pairs n b.durable ∥₁ → (m : Element) → m ∈ s.left → TakesWrite (store_version store) is_allowed pairs (seen b) (page_write S F m).0 (page_write S F m).1
    takes_two fits m has = record {
      shown = λ k x at. absurd (none_at k x at);
      newer = λ k x at. absurd (none_at k x at);
      fenced = λ k x at. absurd (none_at k x at);
      may = λ unpaired. allowed m has;
    }
      where
        none_at : (k : ℕ) (x : Pair) → slice_get pairs k ≡ Some x → ⊥
        none_at k x at = empty_at k x (ap (λ (l : List Pair). slice_get l k) (sym (no_pairs fits)) ∙ at)

-- ---- in either format

module _ (d : Dimensions) (g : IsGeometry d.format d.extents d.pages d.sections) (s : State) (sound : Sound (store_shape d) (formats_of (store_shape d)) s) (b : DiskState) (sized : length b.durable ≡ pages_of d)
    (store : Option Dimensions) (pairs : List Pair) (are : ArePairs pairs (pages_of d)) (on : IsDiskOf (store_shape d) (formats_of (store_shape d)) s (shown_state (store_version store) pairs b)) (fits : ∥ IsOfStore store pairs (pages_of d) b.durable ∥₁) where
  some : 0 < length b.durable
  some = let many = pages_on_device d.format d.extents d.pages d.sections g in omega (arith, many, sized)

  -- the pairs are those of the store
  pub pairs_either : pairs ≡ store_pairs d
  pairs_either = by (twins_in d.format) refl
    where
      by : (t : Bool) → twins_in d.format ≡ t → pairs ≡ store_pairs d
      by true twins = its_pairs d g twins s sound b sized store pairs on fits
      by false other = no_pairs d g s sound other b some store pairs (pages_of d) are on fits ∙ sym (ap (λ (t : Bool). if t then map (store_pair d) (range_with_len 0 (1 + d.sections)) else []) other)

  -- what is left to write is taken
  pub takes_either : AreNoOlder (store_version store) pairs b → AreFenced (store_version store) pairs b.durable → (m : Element) → m ∈ s.left
      → (let w = page_write (store_shape d) (formats_of (store_shape d)) m in TakesWrite (store_version store) is_allowed pairs (seen b) w.0 w.1)
  takes_either newer fenced m has = by (twins_in d.format) refl
    where
      by : (t : Bool) → twins_in d.format ≡ t → (let w = page_write (store_shape d) (formats_of (store_shape d)) m in TakesWrite (store_version store) is_allowed pairs (seen b) w.0 w.1)
      by true twins = takes_its d g twins s sound b sized store pairs on fits newer fenced m has
      by false other = takes_two d g s sound other b some store pairs (pages_of d) are on fits m has
