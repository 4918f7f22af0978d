-- A disk in pairs that shows what a device with a store of format 4 shows lies in the pairs of that store.
use Rattle.std.proofs.Common.{◌≡◌, ◌≢◌, ◌⊎◌, ⊎_elim, inl, inr, ◌∙◌, ◌+◌, ◌-◌, ◌<◌, ◌≤◌, ◌&&◌, ◌==◌, ◌∷◌, [], ℕ, suc, Bool, true, false, List, Option, Some, None, if◌then◌else◌, length, map, nat_le, nat_lt, slice_index, bytes_eq, codes, ap, arith, subst, sym, refl}
use denote.Struct.Props.{props}
use Rattle.std.proofs.Math.Logic.{∥∥₁_elim}
use Rattle.std.proofs.lemmas.Bool.{and_parts}
use Rattle.std.proofs.lemmas.Bool.Decides.{nat_tests}
use Rattle.std.proofs.lemmas.Option.{same_Some}
use Rattle.std.specs.List.{range_with_len}
use Rattle.cs_disk.specs.Disk.{Image, State, flushed, page}
use Rattle.cs_frame.proofs.GeometryLaws.{device_tested}
use Rattle.cs_frame.proofs.TestLaws.{passed}
use Rattle.cs_frame.specs.Bytes.{field, number}
use Rattle.cs_frame.specs.declared.faults.FormatFault.{FormatFault}
use Rattle.cs_frame.specs.declared.faults.FormatFault.TheVariants.{BadLength, BadMagic, BadVersion}
use Rattle.cs_frame.specs.declared.formats.FormatNumber.TheVariants as of_number
use Rattle.cs_frame.specs.Geometries.{Dimensions, device_pages, file_pages, greatest_extents, has_device, in_bounds, is_divided}
use Rattle.cs_frame.specs.Pages.{digest_test, digit_test, padding_test}
use Rattle.cs_frame.specs.Pointers.{superblock_range_test}
use Rattle.cs_frame.specs.Superblocks.{format_in, section_passes, section_test, superblock_end, superblock_pointer_test}
use Rattle.cs_twin.proofs.Roles.{if_other}
use Rattle.cs_twin.proofs.Shown.{page-shown}
use Rattle.cs_twin.specs.declared.pairs.Pair.{Pair}
use Rattle.cs_twin.specs.Pairs.{Versions, blank, half, is_turned, shown, shown_page}
use Rattle.law_machine.specs.Format.{Format}
use Rattle.law_machine.specs.Geometry.{twins_in}
use Rattle.cs_mount.specs.OfStores.{IsOfStore}
use Rattle.cs_mount.specs.Showing.{shown_by, shown_on}
use Rattle.cs_mount.specs.StorePairs.{dimensions_on, first_says, last_says, named_by, pages_of, pairs_where, section_version, store_pair, store_pairs, store_version}
use Rattle.cs_mount.proofs.Ones.{found_one}
use Rattle.cs_mount.proofs.Telling.{found_third, said_by, said_whole, says_version, version_says}

-- ---- where a store is found its first section shows

if_named : (b : Bool) (found d : Dimensions) → (if b then Some found else None) ≡ Some d → found ≡ d
if_named true found d is = same_Some found d is
if_named false found d is = cc

-- its device has more than one page
many_said : (n : ℕ) (bytes : List ℕ) (d : Dimensions) → first_says n bytes ≡ Some d → 2 ≤ pages_of d
many_said n bytes d says =
    let format : Format = format_in of_number.Four bytes in
    let e = number 12 14 bytes in
    let p = number 14 16 bytes in
    let s = slice_index bytes 16 in
    let j = slice_index bytes 17 in
    let whole = said_whole n bytes d says in
    let named : named_by n bytes ≡ Some d = sym (ap (λ (o : Option FormatFault). last_says n o bytes) whole) ∙ says in
    let same = if_named (twins_in format && j == 0 && device_pages format e p s == n) (record { format = format; extents = e; pages = p; sections = s }) d named in
    let end = superblock_end of_number.Four bytes in
    let others : List (Option FormatFault) = digest_test end bytes ∷ superblock_range_test bytes ∷ superblock_pointer_test of_number.Four bytes ∷ padding_test (end + 32) bytes ∷ [] in
    let section = section_test of_number.Four bytes in
    let first = passed (bytes_eq (field 0 3 bytes) (codes "CSS")) BadMagic (digit_test 52 bytes ∷ section ∷ others) whole in
    let second = passed (slice_index bytes 3 == 52) BadVersion (section ∷ others) first.1 in
    let passes = (passed (section_passes format e p s j) BadLength others second.1).0 in
    let tested = and_parts (in_bounds format (greatest_extents format) e p && is_divided format e s && nat_lt j s) (has_device format e p s) passes in
    let fits : file_pages e p s ≤ number 18 26 bytes = device_tested format e p s tested.1 in
    let is : number 18 26 bytes ≡ pages_of d = ap pages_of same in
    omega (arith, fits, is)

module _ (n : ℕ) (image : Image) (d : Dimensions) (found : dimensions_on n image ≡ Some d) where
  abbrev V : Versions
  V = store_version (Some d)

  abbrev x : Pair
  x = store_pair d 0

  twins : twins_in d.format ≡ true
  twins = (found_third n image d found).0

  sized : pages_of d ≡ n
  sized = (found_third n image d found).1

  many : 2 ≤ pages_of d
  many = ⊎_elim (λ own. many_said n (page image 0) d own) (λ last. many_said n (page image (n - 1)) d last.1) (said_by n image d (found_one n image d found).1)

  -- one of its two pages is whole
  one_whole : (0 < section_version d 0 (page image 0)) ⊎ (0 < section_version d 0 (page image (pages_of d - 1)))
  one_whole = ⊎_elim (λ own. inl (says_version d n (page image 0) twins own))
      (λ last. inr (subst (λ k. 0 < section_version d 0 (page image (k - 1))) (sym sized) (says_version d n (page image (n - 1)) twins last.1))) (said_by n image d (found_one n image d found).1)

  -- so the newest is
  newest_whole : 0 < section_version d 0 (page image (half x (is_turned V image x)))
  newest_whole = by_turned (is_turned V image x) refl one_whole
    where
      by_turned : (t : Bool) → nat_le (section_version d 0 (page image 0)) (section_version d 0 (page image (pages_of d - 1))) ≡ t
          → (0 < section_version d 0 (page image 0)) ⊎ (0 < section_version d 0 (page image (pages_of d - 1))) → 0 < section_version d 0 (page image (half x t))
      by_turned true test (inl own) = grind (arith, nat_tests)
      by_turned true test (inr twin) = twin
      by_turned false test (inl own) = own
      by_turned false test (inr twin) = grind (arith, nat_tests)

  shows_newest : shown_page V (store_pairs d) image 0 ≡ page image (half x (is_turned V image x))
  shows_newest =
      ap (λ (b : Bool). shown_page V (if b then map (store_pair d) (range_with_len 0 (1 + d.sections)) else []) image 0) twins ∙ listed d.sections
    where
      listed : (k : ℕ) → shown_page V (map (store_pair d) (range_with_len 0 (1 + k))) image 0 ≡ page image (half x (is_turned V image x))
      listed k =
          let is : 1 + k ≡ suc k = omega arith in
          ap (λ i. shown_page V (map (store_pair d) (range_with_len 0 i)) image 0) is
          ∙ if_other (pages_of d - 1) 0 blank (page image (half x (is_turned V image x))) (λ zero. omega (arith, many, zero))

  first_shows : length image ≡ n → first_says n (page (shown_on n image) 0) ≡ Some d
  first_shows long =
      let shows : page (shown_on n image) 0 ≡ page image (half x (is_turned V image x)) =
      ap (λ (o : Option Dimensions). page (shown (store_version o) (pairs_where o) image) 0) found
      ∙ page-shown V (store_pairs d) image 0 (omega (arith, long, many, sized)) ∙ shows_newest in
      let whole : 0 < section_version d 0 (page (shown_on n image) 0) = subst (λ (bytes : List ℕ). 0 < section_version d 0 bytes) (sym shows) newest_whole in
      subst (λ k. first_says k (page (shown_on n image) 0) ≡ Some d) sized (version_says d (page (shown_on n image) 0) twins whole)

-- ---- so a disk in pairs that shows it is in the pairs of that store

pub record LiesIn (n : ℕ) (d : Dimensions) (store : Option Dimensions) (pairs : List Pair) (below : Image) : Type 0 where
  pub its : store ≡ Some d
  pub are : pairs ≡ store_pairs d
  pub found : dimensions_on n below ≡ Some d

pub lies_in : (n : ℕ) (image : Image) (d : Dimensions) (store : Option Dimensions) (pairs : List Pair) (below : Image) → length image ≡ n → dimensions_on n image ≡ Some d → ∥ IsOfStore store pairs n below ∥₁
    → shown (store_version store) pairs below ≡ shown_on n image → LiesIn n d store pairs below
lies_in n image d store pairs below long found fits shows =
    let says : first_says n (page (shown (store_version store) pairs below) 0) ≡ Some d = ap (λ (z : Image). first_says n (page z 0)) shows ∙ first_shows n image d found long in
    let is_its : IsProp (store ≡ Some d) = hlevel props in
    let are_its : IsProp (pairs ≡ pairs_where store) = hlevel props in
    let is_found : IsProp (dimensions_on n below ≡ Some d) = hlevel props in
    let its : store ≡ Some d = ∥∥₁_elim fits is_its (λ of. (of.found d says).0) in
    record {
      its = its;
      are = ∥∥₁_elim fits are_its (λ of. of.its) ∙ ap pairs_where its;
      found = ∥∥₁_elim fits is_found (λ of. (of.found d says).1);
    }

-- so it shows each image as the store's pairs show it
pub shown_alike : (n : ℕ) (image : Image) → length image ≡ n → dimensions_on n image ≢ None → (m : ℕ) (g : Option Dimensions) (pairs : List Pair) (below : Image) → m ≡ n → ∥ IsOfStore g pairs m below ∥₁
    → shown (store_version g) pairs below ≡ shown_on n image → (left : Image) → shown (store_version g) pairs left ≡ shown_by n image left
shown_alike n image long some m g pairs below same fits shows left = by_found (dimensions_on n image) refl
  where
    by_found : (o : Option Dimensions) → dimensions_on n image ≡ o → shown (store_version g) pairs left ≡ shown_by n image left
    by_found None is = absurd (some is)
    by_found (Some d) is =
        let lies = lies_in n image d g pairs below long is (subst (λ k. ∥ IsOfStore g pairs k below ∥₁) same fits) shows in
        ap (λ (o : Option Dimensions). shown (store_version o) pairs left) lies.its ∙ ap (λ (l : List Pair). shown (store_version (Some d)) l left) lies.are
        ∙ sym (ap (λ (o : Option Dimensions). shown (store_version o) (pairs_where o) left) is)

-- what shows after calls that write nothing
pub still_durable : (image : Image) (before now : State) → before ≡ record { durable = image; volatile = [] } → (now ≡ before) ⊎ (now ≡ flushed before) → now.durable ≡ image
still_durable image before now is (inl same) = ap (λ (z : State). z.durable) (same ∙ is)
still_durable image before now is (inr flush) = ap (λ (z : State). z.durable) (flush ∙ ap flushed is)
