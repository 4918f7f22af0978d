-- From what a crash leaves the dimensions of a store are found again.
use Rattle.std.proofs.Common.{◌≡◌, ◌≢◌, ◌⊎◌, inl, inr, ⊎_elim, if◌then◌else◌, ℕ, suc, ◌+◌, ◌-◌, ◌<◌, ◌≤◌, Bool, true, false, List, [], Option, Some, None, slice_get, length, map, nat_le, slice_index, refl, sym, ◌∙◌, ap, subst, arith}
use Rattle.std.proofs.lemmas.Bool.{cases_lt}
use Rattle.std.proofs.lemmas.Bool.Decides.{nat_tests}
use Rattle.std.proofs.lemmas.List.{get_or-replicate}
use Rattle.std.specs.List.{range_with_len}
use Rattle.cs_disk.specs.Disk.{Image, State, Write, kept, latest, page}
use Rattle.cs_disk.proofs.Images.{page-applied}
use Rattle.cs_frame.specs.declared.formats.FormatNumber.{FormatNumber}
use Rattle.cs_frame.specs.declared.formats.FormatNumber.TheVariants as of_number
use Rattle.cs_frame.specs.FormatNumbers.{section_digit}
use Rattle.law_machine.specs.Geometry.{twins_in}
use Rattle.cs_frame.specs.FirstFormat.{first_format_fault, page_zero_fault, zero_format}
use Rattle.cs_frame.proofs.FirstFormatLaws as frames
use Rattle.cs_frame.proofs.SuperblockLaws as superblocks
use Rattle.cs_frame.specs.Geometries.{Dimensions, IsGeometry}
use Rattle.cs_frame.specs.Superblocks.{superblock_fault}
use Rattle.cs_twin.specs.declared.pairs.Pair.{Pair}
use Rattle.cs_twin.specs.Pairs.{ArePairs, AreNoOlder, Versions, fence, half, is_turned, shown, version_at}
use Rattle.cs_mount.specs.Identities.{IsOfOne, identity_said}
use Rattle.cs_mount.specs.Showing.{shown_on}
use Rattle.cs_mount.specs.StorePairs.{dimensions_on, first_says, last_says, pages_of, said_on, pairs_where, section_version, store_pair, store_pairs, store_version, zero_or_last}
use Rattle.cs_twin.specs.Tears.{HasWaitingWrite, IsLeft, IsNotWhole}
use Rattle.cs_mount.proofs.Blank.{apart_of}
use Rattle.cs_twin.proofs.Leaving.{kept_among}
use Rattle.cs_twin.proofs.Tearing.{MaySpoil}
use Rattle.cs_twin.proofs.Shown.{Each, IsLast, latest_none, latest_of}
use Rattle.cs_mount.proofs.Ones.{damaged_unsaid, faulty_unsaid, found_one, one_found}
use Rattle.cs_mount.proofs.Telling.{SaysIts, ends_its, its_one, said_by, said_by_last, said_by_zero, says_version, version_its}

-- ---- a fence is whole in no format

fence_digit : slice_index fence 3 ≡ 255
unfolding fence
fence_digit = get_or-replicate 4096 3 255 0 (omega arith)

known_digit : (n : FormatNumber) → 255 ≡ section_digit n → ⊥
known_digit of_number.Two is = omega (arith, is)
known_digit of_number.Four is = omega (arith, is)

pub fence_damaged : (bytes : List ℕ) → bytes ≡ fence → page_zero_fault bytes ≢ None
fence_damaged bytes is whole = ⊎_elim
    (λ (first : first_format_fault fence ≡ None). let fourth = frames.fourth_is fence first in omega (arith, fourth, fence_digit))
    (λ (section : superblock_fault (zero_format fence) fence ≡ None). known_digit (zero_format fence) (sym fence_digit ∙ superblocks.fourth_is (zero_format fence) fence section))
    (frames.zero_is_one fence (ap page_zero_fault (sym is) ∙ whole))

-- The bytes are those of a volatile write that goes to this page.
pub record IsWrite (s : State) (p : ℕ) (bytes : List ℕ) : Type 0 where
  pub place : ℕ
  pub write : Write
  pub at : slice_get s.volatile place ≡ Some write
  pub goes : write.0 ≡ p
  pub is : bytes ≡ write.1

-- what some of the writes to a page leave there is what is durable, or one of them
pub left_at : (s : State) (p : ℕ) (bytes : List ℕ) → p < length s.durable → IsLeft s p bytes → (bytes ≡ page s.durable p) ⊎ IsWrite s p bytes
left_at s p bytes inside left = by_last (latest_of (kept left.0 s.volatile) p)
  where
    there : bytes ≡ latest (kept left.0 s.volatile) p (page s.durable p)
    there = left.2 ∙ page-applied s.durable (kept left.0 s.volatile) p inside

    by_last : IsLast (kept left.0 s.volatile) p ⊎ Each (λ w. w.0 ≡ p → ⊥) (kept left.0 s.volatile) → (bytes ≡ page s.durable p) ⊎ IsWrite s p bytes
    by_last (inl last) =
        let found = kept_among left.0 s.volatile last.place last.write last.at in
        inr (record { place = found.0; write = last.write; at = found.1; goes = last.goes; is = there ∙ last.is (page s.durable p) })
    by_last (inr none) = inl (there ∙ latest_none (kept left.0 s.volatile) p (page s.durable p) none)

-- the first of pairs that are made of their places
first_made : (f : ℕ → Pair) (n : ℕ) → slice_get (map f (range_with_len 0 (1 + n))) 0 ≡ Some (f 0)
first_made f n =
    let is : 1 + n ≡ suc n = omega arith in
    ap (λ k. slice_get (map f (range_with_len 0 k)) 0) is

pub first_pair : (d : Dimensions) → twins_in d.format ≡ true → slice_get (store_pairs d) 0 ≡ Some (store_pair d 0)
first_pair d twins =
    ap (λ (b : Bool). slice_get (if b then map (store_pair d) (range_with_len 0 (1 + d.sections)) else []) 0) twins ∙ first_made (store_pair d) d.sections

-- what is said is said by two pages
told_alike : (n : ℕ) (image other : Image) → page image 0 ≡ page other 0 → page image (n - 1) ≡ page other (n - 1) → said_on n image ≡ said_on n other
told_alike n image other first last =
    ap (λ (l : List ℕ). zero_or_last n (page_zero_fault l) l (last_says n (superblock_fault of_number.Four (page image (n - 1))) (page image (n - 1)))) first
    ∙ ap (λ (l : List ℕ). zero_or_last n (page_zero_fault (page other 0)) (page other 0) (last_says n (superblock_fault of_number.Four l) l)) last

pub older : (a b : ℕ) → nat_le a b ≡ false → b < a
older a b test = grind (arith, nat_tests)

no_less : (a b : ℕ) → nat_le a b ≡ true → a ≤ b
no_less a b test = grind (arith, nat_tests)

-- the newest half of a store that is found is whole
pub newest_some : (d : Dimensions) → twins_in d.format ≡ true → (image : Image) → dimensions_on (pages_of d) image ≡ Some d
    → 0 < version_at (store_version (Some d)) image (store_pair d 0) (is_turned (store_version (Some d)) image (store_pair d 0))
newest_some d twins image found = by_half (is_turned V image x) refl (said_by (pages_of d) image d (found_one (pages_of d) image d found).1)
  where
    V : Versions
    V = store_version (Some d)

    x : Pair
    x = store_pair d 0

    by_half : (t : Bool) → is_turned V image x ≡ t → (first_says (pages_of d) (page image 0) ≡ Some d) ⊎ ((page_zero_fault (page image 0) ≢ None) × (first_says (pages_of d) (page image (pages_of d - 1)) ≡ Some d))
        → 0 < version_at V image x (is_turned V image x)
    by_half false turned says =
        let is = ap (λ (b : Bool). version_at V image x b) turned in
        let above = older (version_at V image x false) (version_at V image x true) turned in
        omega (arith, is, above)
    by_half true turned (inl first) =
        let is = ap (λ (b : Bool). version_at V image x b) turned in
        let le = no_less (version_at V image x false) (version_at V image x true) turned in
        let own = says_version d (pages_of d) (page image 0) twins first in
        omega (arith, is, le, own)
    by_half true turned (inr second) =
        let is = ap (λ (b : Bool). version_at V image x b) turned in
        let own = says_version d (pages_of d) (page image (pages_of d - 1)) twins second.1 in
        omega (arith, is, own)

module _ (d : Dimensions) (twins : twins_in d.format ≡ true) (s : State) (c : Image) (are : ArePairs (store_pairs d) (length s.durable)) (newer : AreNoOlder (store_version (Some d)) (store_pairs d) s)
    (tear : MaySpoil (store_version (Some d)) (store_pairs d) s c) (before : dimensions_on (pages_of d) s.durable ≡ Some d) where
  abbrev V : Versions
  V = store_version (Some d)

  abbrev x : Pair
  x = store_pair d 0

  abbrev last : ℕ
  last = pages_of d - 1

  at : slice_get (store_pairs d) 0 ≡ Some x
  at = first_pair d twins

  -- no write goes to the newest half
  none_goes : (twin : Bool) → is_turned V s.durable x ≡ twin → HasWaitingWrite s (half x twin) → ⊥
  none_goes twin turned waits = (newer.each 0 waits.0 x waits.1 at waits.2 twin waits.3).0 (sym turned)

  pub stays : (twin : Bool) → is_turned V s.durable x ≡ twin → page c (half x twin) ≡ page s.durable (half x twin)
  stays twin turned = ⊎_elim
      (λ (left : IsLeft s (half x twin) (page c (half x twin))). ⊎_elim
      (λ (same : page c (half x twin) ≡ page s.durable (half x twin)). same)
      (λ (w : IsWrite s (half x twin) (page c (half x twin))). absurd (none_goes twin turned (w.place, w.write, w.at, w.goes)))
      (left_at s (half x twin) (page c (half x twin)) (are.inside 0 x twin at) left))
      (λ (torn : HasWaitingWrite s (half x twin) × IsNotWhole V (store_pairs d) (half x twin) (page c (half x twin))). absurd (none_goes twin turned torn.0))
      (tear.each (half x twin) (are.inside 0 x twin at))

  -- each half says the identity of the store, or none
  half_its : (twin : Bool) → SaysIts d (page s.durable (half x twin)) → IsLeft s (half x twin) (page c (half x twin)) ⊎ (identity_said (page c (half x twin)) ≡ None) → SaysIts d (page c (half x twin))
  half_its twin was (inr none) = inl none
  half_its twin was (inl left) = ⊎_elim
      (λ (same : page c (half x twin) ≡ page s.durable (half x twin)). subst (SaysIts d) (sym same) was)
      (λ (w : IsWrite s (half x twin) (page c (half x twin))). subst (SaysIts d) (sym w.is) (⊎_elim
      (λ (whole : 0 < section_version d 0 w.write.1). inr (version_its d w.write.1 twins whole))
      (λ (hollow : section_version d 0 w.write.1 ≤ 0). inl (damaged_unsaid w.write.1 (fence_damaged w.write.1 ((newer.each 0 w.place x w.write at w.at twin w.goes).2 (omega (arith, hollow))))))
      (cases_lt 0 (section_version d 0 w.write.1))))
      (left_at s (half x twin) (page c (half x twin)) (are.inside 0 x twin at) left)

  pub left_one : IsLeft s 0 (page c 0) ⊎ (page_zero_fault (page c 0) ≢ None) → IsLeft s last (page c last) ⊎ (superblock_fault of_number.Four (page c last) ≢ None) → IsOfOne (pages_of d) c
  left_one first second =
      let were = ends_its (pages_of d) s.durable d before in
      its_one (pages_of d) c d
      (half_its false were.0 (⊎_elim (λ (left : IsLeft s 0 (page c 0)). inl left) (λ (damaged : page_zero_fault (page c 0) ≢ None). inr (damaged_unsaid (page c 0) damaged)) first))
      (half_its true were.1 (⊎_elim (λ (left : IsLeft s last (page c last)). inl left) (λ (damaged : superblock_fault of_number.Four (page c last) ≢ None). inr (faulty_unsaid (page c last) damaged)) second))

  said_turned : (t : Bool) → is_turned V s.durable x ≡ t → 0 < version_at V s.durable x (is_turned V s.durable x) → IsLeft s 0 (page c 0) ⊎ (page_zero_fault (page c 0) ≢ None) → said_on (pages_of d) c ≡ Some d
  said_turned false turned some first =
      let newest = ap (λ (b : Bool). version_at V s.durable x b) turned in
      let same = ap (section_version d 0) (stays false turned) in
      said_by_zero d c twins (omega (arith, some, newest, same))
  said_turned true turned some first =
      let newest = ap (λ (b : Bool). version_at V s.durable x b) turned in
      let twin = stays true turned in
      let same = ap (section_version d 0) twin in
      ⊎_elim
      (λ (left : IsLeft s 0 (page c 0)). ⊎_elim
      (λ (own : page c 0 ≡ page s.durable 0). told_alike (pages_of d) c s.durable own twin ∙ (found_one (pages_of d) s.durable d before).1)
      (λ (w : IsWrite s 0 (page c 0)).
      let older = newer.each 0 w.place x w.write at w.at false w.goes in
      let bytes = ap (section_version d 0) w.is in
      ⊎_elim
      (λ (whole : 0 < section_version d 0 w.write.1). said_by_zero d c twins (omega (arith, whole, bytes)))
      (λ (hollow : section_version d 0 w.write.1 ≤ 0). said_by_last d c twins (fence_damaged (page c 0) (w.is ∙ older.2 (omega (arith, hollow)))) (omega (arith, some, newest, same)))
      (cases_lt 0 (section_version d 0 w.write.1)))
      (left_at s 0 (page c 0) (are.inside 0 x false at) left))
      (λ (damaged : page_zero_fault (page c 0) ≢ None). said_by_last d c twins damaged (omega (arith, some, newest, same)))
      first

  pub left_found : IsLeft s 0 (page c 0) ⊎ (page_zero_fault (page c 0) ≢ None) → IsLeft s last (page c last) ⊎ (superblock_fault of_number.Four (page c last) ≢ None) → dimensions_on (pages_of d) c ≡ Some d
  left_found first second = one_found (pages_of d) c (left_one first second) ∙ said_turned (is_turned V s.durable x) refl (newest_some d twins s.durable before) first

-- What shows is what an opening shows.
pub shows_again : (d : Dimensions) (s : State) (c : Image) → IsGeometry d.format d.extents d.pages d.sections → twins_in d.format ≡ true → length s.durable ≡ pages_of d → AreNoOlder (store_version (Some d)) (store_pairs d) s
    → MaySpoil (store_version (Some d)) (store_pairs d) s c → dimensions_on (pages_of d) s.durable ≡ Some d
    → IsLeft s 0 (page c 0) ⊎ (page_zero_fault (page c 0) ≢ None) → IsLeft s (pages_of d - 1) (page c (pages_of d - 1)) ⊎ (superblock_fault of_number.Four (page c (pages_of d - 1)) ≢ None) → shown_on (pages_of d) c ≡ shown (store_version (Some d)) (store_pairs d) c
shows_again d s c g twins sized newer tear before first last =
    let are = subst (λ n. ArePairs (store_pairs d) n) (sym sized) (apart_of d g) in
    ap (λ (o : Option Dimensions). shown (store_version o) (pairs_where o) c) (left_found d twins s c are newer tear before first last)
