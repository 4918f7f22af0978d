-- A disk in the pairs of a store takes what the store's core has left to write.
use Rattle.std.proofs.Common.{◌≡◌, ◌≢◌, if◌then◌else◌, ◌==◌, ◌&&◌, ◌-◌, ◌*◌, ℕ, ◌+◌, ◌<◌, Bool, true, false, not, List, [], ◌∷◌, Option, Some, length, map, nat_lt, slice_get, slice_index, refl, sym, ◌∙◌, ap, subst, arith, ne_eqb}
use denote.Struct.Props.{props}
use Rattle.std.proofs.Math.Logic.{∥∥₁_elim}
use Rattle.std.proofs.lemmas.Bool.{and_from}
use Rattle.std.proofs.lemmas.Bool.Decides.{nat_tests}
use Rattle.cs_core.specs.law_refinement.Devices.{IsDiskOf}
use Rattle.std.specs.List.{AllByRecursion}
use Rattle.cs_disk.specs.Disk.{Image, IsWhole, State as DiskState, page, seen}
use Rattle.cs_disk.proofs.Crashes.{seen_MayLeave}
use Rattle.cs_frame.specs.Formats.{formats_of}
use Rattle.cs_frame.specs.Geometries.{Dimensions, IsGeometry}
use Rattle.law_machine.specs.Device.{FramePage, RootPage, SectionPage, Shape}
use Rattle.law_machine.specs.Disk.{page_write}
use Rattle.law_machine.specs.Element.{Element}
use Rattle.law_machine.specs.Formats.{Formats}
use Rattle.law_machine.specs.Geometry.{twins_in}
use Rattle.law_machine.specs.Lists.{◌∈◌}
use Rattle.law_machine.specs.Sound.{Sound}
use Rattle.law_machine.specs.State.{State}
use Rattle.cs_twin.specs.declared.pairs.Pair.{Pair}
use Rattle.cs_twin.specs.declared.findings.Finding.{Finding}
use Rattle.cs_twin.specs.Fences.{AreFenced}
use Rattle.cs_twin.specs.Findings.{are_known, finding_in, is_known}
use Rattle.cs_twin.specs.Kept.{TakesWrite}
use Rattle.cs_twin.specs.Pairs.{ArePairs, AreNoOlder, Versions, half, is_turned, shown, shown_state}
use Rattle.cs_twin.proofs.Fencing.{fenced_left, found_fenced}
use Rattle.cs_twin.proofs.Over.{reads_pair}
use Rattle.cs_twin.proofs.Shown.{length-shown}
use Rattle.cs_mount.specs.OfStores.{IsOfStore, is_allowed}
use Rattle.cs_mount.specs.Showing.{findings_on}
use Rattle.cs_mount.specs.StorePairs.{dimensions_on, pages_of, pairs_where, section_version, store_pair, store_pairs, store_shape, store_version}
use Rattle.cs_mount.proofs.NewOn.{placed}
use Rattle.cs_mount.proofs.Rising.{left_below, newer_left, reads_held, some_section}
use Rattle.cs_mount.proofs.Telling.{version_says}
use Rattle.cs_mount.proofs.Twins.{total_pages}
use Rattle.cs_mount.proofs.Unpaired.{are_pairs, pair_there}

-- halves that are whole or fences are so in what a disk in pairs reads as
pub fenced_seen : (V : Versions) (pairs : List Pair) (s : DiskState) → AreNoOlder V pairs s → AreFenced V pairs s.durable → AreFenced V pairs (seen s)
fenced_seen V pairs s newer fenced = fenced_left V pairs s (seen s) newer fenced (seen_MayLeave s)

-- halves none of which was found damaged are whole or fences
all_known : (V : Versions) (image : Image) (pairs : List Pair) → AllByRecursion (λ (it : Finding). is_known it ≡ true) (map (finding_in V image) pairs) → are_known V image pairs ≡ true
all_known V image [] all = refl
all_known V image (x ∷ pairs) all = and_from (is_known (finding_in V image x)) (are_known V image pairs) all.0 (all_known V image pairs all.1)

pub undamaged_fenced : (V : Versions) (pairs : List Pair) (n : ℕ) (s : DiskState) → ArePairs pairs n → length s.durable ≡ n → IsWhole s
    → AllByRecursion (λ (it : Finding). is_known it ≡ true) (map (finding_in V s.durable) pairs) → AreFenced V pairs s.durable
undamaged_fenced V pairs n s are sized whole all =
    found_fenced V s.durable pairs (λ k x twin at. whole.durable (half x twin) [] (let inside = are.inside k x twin at in omega (arith, inside, sized))) (all_known V s.durable pairs all)

-- a pair's page is none of frames
own_kind : (frames p k : ℕ) → p ≡ (if nat_lt k 2 then k else frames + k)
    → (if p == 0 then SectionPage 0 else if p == 1 then RootPage else if nat_lt p (2 + frames) then FramePage else SectionPage (p - (1 + frames))) ≡ FramePage → ⊥
own_kind frames p k is frame = by (p == 0) (p == 1) (nat_lt p (2 + frames)) refl refl refl frame
  where
    between : (p == 0) ≡ false → (p == 1) ≡ false → nat_lt p (2 + frames) ≡ true → ⊥
    between not_first not_second below = grind (arith, nat_tests)

    by : (a b c : Bool) → (p == 0) ≡ a → (p == 1) ≡ b → nat_lt p (2 + frames) ≡ c → (if a then SectionPage 0 else if b then RootPage else if c then FramePage else SectionPage (p - (1 + frames))) ≡ FramePage → ⊥
    by true b c first second third is = cc is
    by false true c first second third is = cc is
    by false false true first second third is = between first second third
    by false false false first second third is = cc is

module _ (d : Dimensions) (g : IsGeometry d.format d.extents d.pages d.sections) (twins : twins_in d.format ≡ true) (s : State) (sound : Sound (store_shape d) (formats_of (store_shape d)) s) where
  abbrev S : Shape
  S = store_shape d

  abbrev F : Formats
  F = formats_of (store_shape d)

  module _ (b : DiskState) (sized : length b.durable ≡ pages_of d) where
    -- The rules of a disk that shows this store are those of it, and so are its pairs.
    module _ (store : Option Dimensions) (pairs : List Pair) (on : IsDiskOf (store_shape d) (formats_of (store_shape d)) s (shown_state (store_version store) pairs b))
        (fits : ∥ IsOfStore store pairs (pages_of d) b.durable ∥₁) where
      says : 0 < section_version d 0 (page (shown (store_version store) pairs b.durable) 0)
      says = subst (λ (bytes : List ℕ). 0 < section_version d 0 bytes)
          (sym (on.durable 0 (let long = length-shown (store_version store) pairs b.durable in let total = total_pages d g twins in omega (arith, long, sized, total)))) (some_section d g s sound twins 0 g.fewest_sections)

      pub its_rules : store ≡ Some d
      its_rules =
          let is_its : IsProp (store ≡ Some d) = hlevel props in
          ∥∥₁_elim fits is_its (λ of. (of.found d (version_says d (page (shown (store_version store) pairs b.durable) 0) twins says)).0)

      pub its_found : dimensions_on (pages_of d) b.durable ≡ Some d
      its_found =
          let is_found : IsProp (dimensions_on (pages_of d) b.durable ≡ Some d) = hlevel props in
          ∥∥₁_elim fits is_found (λ of. (of.found d (version_says d (page (shown (store_version store) pairs b.durable) 0) twins says)).1)

      pub its_pairs : pairs ≡ store_pairs d
      its_pairs =
          let are_its : IsProp (pairs ≡ pairs_where store) = hlevel props in
          ∥∥₁_elim fits are_its (λ of. of.its) ∙ ap pairs_where its_rules

      -- So what an opening finds of the halves is what this disk finds.
      pub its_findings : findings_on (pages_of d) b.durable ≡ map (finding_in (store_version store) b.durable) pairs
      its_findings =
          ap (λ (o : Option Dimensions). map (finding_in (store_version o) b.durable) (pairs_where o)) (its_found ∙ sym its_rules)
          ∙ ap (λ (l : List Pair). map (finding_in (store_version store) b.durable) l) (ap pairs_where its_rules ∙ sym its_pairs)

    -- It takes each page that is left to write.
    module _ (on : IsDiskOf (store_shape d) (formats_of (store_shape d)) s (shown_state (store_version (Some d)) (store_pairs d) b)) (newer : AreNoOlder (store_version (Some d)) (store_pairs d) b)
        (fenced : AreFenced (store_version (Some d)) (store_pairs d) b.durable) (m : Element) (has : m ∈ s.left) where
      abbrev V : Versions
      V = store_version (Some d)

      abbrev p : ℕ
      p = (page_write S F m).0

      inside : p < pages_of d
      inside = let low = left_below d g s sound twins m has in let total = total_pages d g twins in omega (arith, low, total)

      -- it is no twin
      no_twin : (k : ℕ) (x : Pair) → slice_get (store_pairs d) k ≡ Some x → p ≢ x.twin
      no_twin k x at is =
          let here = placed d g twins k x at in
          let low = left_below d g s sound twins m has in
          let total = total_pages d g twins in
          let place : pages_of d - (1 + k) ≡ x.twin = ap (λ (y : Pair). y.twin) here.1 in
          omega (arith, is, place, low, total, here.0)

      -- it is newer than what the pair shows
      above : (k : ℕ) (x : Pair) → slice_get (store_pairs d) k ≡ Some x → p ≡ x.page → V x.page (page (seen b) (half x (is_turned V (seen b) x))) < V x.page (page_write S F m).1
      above k x at own =
          let here = placed d g twins k x at in
          let other = own_kind (d.extents * d.pages) p k (own ∙ ap (λ (y : Pair). y.page) (sym here.1)) in
          let long = length-shown V (store_pairs d) b.durable in
          let shows = reads_pair V (store_pairs d) (pages_of d) b (are_pairs d g twins) sized newer p k x (page (seen b) (half x (is_turned V (seen b) x))) inside at own refl in
          let held = reads_held d g s sound twins m has (shown_state V (store_pairs d) b) on (omega (arith, inside, sized, long)) other in
          let rises = newer_left d g s sound twins m has other in
          subst (λ (q : ℕ). V q (page (seen b) (half x (is_turned V (seen b) x))) < V q (page_write S F m).1) own
          (subst (λ (bytes : List ℕ). V p bytes < V p (page_write S F m).1) (sym (shows ∙ held)) rises)

      pub takes_left : TakesWrite V is_allowed (store_pairs d) (seen b) (page_write S F m).0 (page_write S F m).1
      takes_left = record {
        shown = no_twin;
        newer = above;
        fenced = λ k x at own. fenced_seen V (store_pairs d) b newer fenced;
        may = λ unpaired. ap (λ (t : Bool). not (t && slice_index (page_write S F m).1 3 == 52)) (ne_eqb p 0 (λ zeroth. unpaired 0 (store_pair d 0) false (pair_there d g twins 0 (omega arith)) zeroth));
      }

    -- So does a disk that shows the store, whatever its rules and its pairs are said to be.
    pub takes_its : (store : Option Dimensions) (pairs : List Pair) → IsDiskOf (store_shape d) (formats_of (store_shape d)) s (shown_state (store_version store) pairs b) → ∥ IsOfStore store pairs (pages_of d) b.durable ∥₁
        → AreNoOlder (store_version store) pairs b → AreFenced (store_version store) pairs b.durable → (m : Element) → m ∈ s.left
        → TakesWrite (store_version store) is_allowed pairs (seen b) (page_write S F m).0 (page_write S F m).1
    takes_its store pairs on fits newer fenced m has =
        let its = its_rules store pairs on fits in
        let lie = its_pairs store pairs on fits in
        let on_its = subst (λ (l : List Pair). IsDiskOf (store_shape d) (formats_of (store_shape d)) s (shown_state (store_version (Some d)) l b)) lie
        (subst (λ (o : Option Dimensions). IsDiskOf (store_shape d) (formats_of (store_shape d)) s (shown_state (store_version o) pairs b)) its on) in
        let newer_its = subst (λ (l : List Pair). AreNoOlder (store_version (Some d)) l b) lie (subst (λ (o : Option Dimensions). AreNoOlder (store_version o) pairs b) its newer) in
        let fenced_its = subst (λ (l : List Pair). AreFenced (store_version (Some d)) l b.durable) lie (subst (λ (o : Option Dimensions). AreFenced (store_version o) pairs b.durable) its fenced) in
        subst (λ (o : Option Dimensions). TakesWrite (store_version o) is_allowed pairs (seen b) (page_write S F m).0 (page_write S F m).1) (sym its)
        (subst (λ (l : List Pair). TakesWrite (store_version (Some d)) is_allowed l (seen b) (page_write S F m).0 (page_write S F m).1) (sym lie) (takes_left on_its newer_its fenced_its m has))
