-- A device of zeros shows zeros, and holds no store.
use Rattle.std.proofs.Common.{All, Contains, ◌+◌, ◌-◌, ◌==◌, ◌<◌, ◌≡◌, ◌≢◌, ◌⊎◌, ◌↔◌, inl, inr, ⊎_elim, ℕ, Bool, true, false, if◌then◌else◌, List, [], Option, None, Some, length, map, replicate, refl, slice_index, sym, ◌∙◌, ap, subst, arith}
use Rattle.std.proofs.lemmas.List.{ext_get_or, get_or-replicate, length-replicate}
use Rattle.std.proofs.lemmas.Option.{slice_get-get_or}
use Rattle.std.specs.List.{range_with_len}
use Rattle.cs_disk.specs.Disk.{Image, Rises, State, Write, applied, flushed, page, seen}
use Rattle.cs_frame.proofs.FirstFormatLaws as frames
use Rattle.cs_frame.proofs.GeometryLaws.{pages_on_device}
use Rattle.cs_frame.proofs.SuperblockLaws as superblocks
use Rattle.cs_frame.specs.Bytes.{number}
use Rattle.cs_frame.specs.declared.formats.FormatNumber.{FormatNumber}
use Rattle.cs_frame.specs.declared.formats.FormatNumber.TheVariants as of_number
use Rattle.cs_frame.specs.FormatNumbers.{number_in, section_digit}
use Rattle.law_machine.specs.Geometry.{twins_in}
use Rattle.cs_frame.specs.declared.faults.FormatFault.{FormatFault}
use Rattle.cs_frame.specs.declared.faults.FormatFault.TheVariants.{BadMagic}
use Rattle.cs_frame.specs.FirstFormat.{first_format_fault, page_zero_fault, zero_format}
use Rattle.cs_frame.specs.Geometries.{Dimensions, IsGeometry}
use Rattle.cs_frame.specs.Roots.{root_fault}
use Rattle.cs_frame.specs.Superblocks.{superblock_fault}
use Rattle.cs_refusal.specs.declared.refusals.Refusal.{Refusal}
use Rattle.cs_refusal.specs.declared.refusals.Refusal.TheVariants.{DeviceFault, NotAStore, Occupied, OutOfMemory}
use Rattle.cs_twin.specs.declared.pairs.Pair.{Pair}
use Rattle.cs_twin.specs.Pairs.{ArePairs, Versions, blank, half, held_in, is_turned, shown, shown_state}
use Rattle.cs_mount.specs.Looks.{IsTaken}
use Rattle.cs_mount.specs.StorePairs.{blank_disk, first_says, is_root, is_section, last_says, pages_of, root_version, section_at, section_version, store_pair, store_pairs, store_version, without_fault}
use Rattle.cs_twin.proofs.Leaving.{are_on, shown_All}
use Rattle.cs_twin.proofs.Shown.{length-shown}
use Rattle.cs_mount.proofs.Twins.{are_store_pairs, listed, unlisted, unlisted_apart}

-- a page of zeros
abbrev zeros : List ℕ
zeros = replicate 4096 0

all_same : (x : List ℕ) (n : ℕ) → All (λ (bytes : List ℕ). bytes ≡ x) (replicate n x)
all_same x n i d lt = get_or-replicate n i x d (omega (arith, lt, length-replicate {A = List ℕ} n x))

pub zeros_show : (V : Versions) (pairs : List Pair) (n : ℕ) → ArePairs pairs n → shown V pairs (replicate n zeros) ≡ replicate n zeros
unfolding blank
zeros_show V pairs n are =
    let image : Image = replicate n zeros in
    let size = length-replicate {A = List ℕ} n zeros in
    let shows = length-shown V pairs image in
    ext_get_or [] (shown V pairs image) image shows
    (λ p lt. shown_All V pairs (λ bytes. bytes ≡ zeros) image (are_on pairs n image are size) refl (all_same zeros n) p [] lt ∙ sym (get_or-replicate n p zeros [] (omega (arith, lt, shows, size))))

-- the pairs of a store, of whichever format
pub apart_of : (d : Dimensions) → IsGeometry d.format d.extents d.pages d.sections → ArePairs (store_pairs d) (pages_of d)
apart_of d g = by_format (twins_in d.format) refl
  where
    by_format : (b : Bool) → twins_in d.format ≡ b → ArePairs (store_pairs d) (pages_of d)
    by_format false none = unlisted_apart (store_pairs d) (pages_of d) (sym (unlisted d [] none refl))
    by_format true twins = subst (λ (l : List Pair). ArePairs l (pages_of d)) (listed d (map (store_pair d) (range_with_len 0 (1 + d.sections))) (1 + d.sections) twins refl refl) (are_store_pairs d g twins)

-- a disk of zeros, all of them durable
pub blank_from : (d : Dimensions) (s : State) → s.durable ≡ replicate (pages_of d) zeros → s.volatile ≡ [] → s ≡ blank_disk d
blank_from d s durable none =
    ap (λ (image : Image). record { durable = image; volatile = s.volatile }) durable ∙ ap (λ (writes : List Write). record { durable = replicate (pages_of d) zeros; volatile = writes }) none

-- So a new device is, before a store is made on it.
pub new_shows : (V : Versions) (d : Dimensions) (s : State) → IsGeometry d.format d.extents d.pages d.sections → s.durable ≡ replicate (pages_of d) zeros → s.volatile ≡ []
    → shown_state V (store_pairs d) (flushed s) ≡ record { durable = replicate (pages_of d) zeros; volatile = [] }
new_shows V d s g durable none =
    let seen_is : seen s ≡ replicate (pages_of d) zeros = ap (applied s.durable) none ∙ durable in
    ap (λ (image : Image). record { durable = shown V (store_pairs d) image; volatile = [] }) (seen_is ∙ refl)
    ∙ ap (λ (image : Image). record { durable = image; volatile = [] }) (zeros_show V (store_pairs d) (pages_of d) (apart_of d g))

-- ---- and holds no store

no_digit : slice_index zeros 3 ≡ 0
no_digit = get_or-replicate 4096 3 0 0 (omega arith)

digit_some : (n : FormatNumber) → 0 ≡ section_digit n → ⊥
digit_some of_number.Two is = omega (arith, is)
digit_some of_number.Four is = omega (arith, is)

pub no_section : (n : FormatNumber) → superblock_fault n zeros ≡ None → ⊥
no_section n none = digit_some n (sym no_digit ∙ superblocks.fourth_is n zeros none)

pub no_first : page_zero_fault zeros ≡ None → ⊥
no_first none = ⊎_elim (λ (first : first_format_fault zeros ≡ None). let fourth = frames.fourth_is zeros first in omega (arith, fourth, no_digit)) (no_section (zero_format zeros)) (frames.zero_is_one zeros none)

pub says_none : (n : ℕ) → first_says n zeros ≡ None
says_none n = by_fault (superblock_fault of_number.Four zeros) refl
  where
    by_fault : (o : Option FormatFault) → superblock_fault of_number.Four zeros ≡ o → last_says n o zeros ≡ None
    by_fault None whole = absurd (no_section of_number.Four whole)
    by_fault (Some fault) is = refl

no_number : number 4 12 zeros ≡ 0
no_number = refl

pub no_version : (d : Dimensions) (p : ℕ) → store_version (Some d) p zeros ≡ 0
no_version d p = either (p == 1) (root_version d.format zeros) (section_version d (section_at d p) zeros) (either (is_root d.format zeros) _ 0 (without (root_fault (number_in d.format) zeros)) refl) (either (is_section d (section_at d p) zeros) _ 0 (without (superblock_fault (number_in d.format) zeros)) refl)
  where
    either : (t : Bool) (a b : ℕ) → a ≡ 0 → b ≡ 0 → (if t then a else b) ≡ 0
    either true a b is other = is
    either false a b is other = other

    zero_by : (o : Option FormatFault) → without_fault o 0 ≡ 0
    zero_by None = refl
    zero_by (Some fault) = refl

    without : (o : Option FormatFault) → without_fault o (number 4 12 zeros) ≡ 0
    without o = ap (without_fault o) no_number ∙ zero_by o

-- nothing stands against a store on it
module _ (d : Dimensions) (g : IsGeometry d.format d.extents d.pages d.sections) (n : ℕ) (image : Image) (size : n ≡ pages_of d) (is : image ≡ replicate (pages_of d) zeros) where
  blank_page : (p : ℕ) → p < n → page image p ≡ zeros
  blank_page p lt = ap (λ (i : Image). page i p) is ∙ get_or-replicate (pages_of d) p zeros [] (subst (λ (k : ℕ). p < k) size lt)

  some : 0 < n
  some = let on = pages_on_device d.format d.extents d.pages d.sections g in omega (arith, size, on)

  no_half : (x : Pair) → Contains (store_pairs d) x → 0 < (held_in (store_version (Some d)) image x).version → ⊥
  no_half x has held =
      let twin = is_turned (store_version (Some d)) image x in
      let inside = (apart_of d g).inside has.0 x twin (slice_get-get_or (store_pairs d) has.0 x has.1 ∙ ap Some has.2) in
      let none : (held_in (store_version (Some d)) image x).version ≡ 0 = ap (store_version (Some d) x.page) (blank_page (half x twin) (subst (λ (k : ℕ). half x twin < k) (sym size) inside)) ∙ no_version d x.page in
      omega (arith, held, none)

  pub blank_free : IsTaken n image (store_version (Some d)) (store_pairs d) → ⊥
  blank_free (inl whole) = no_first (subst (λ (bytes : List ℕ). page_zero_fault bytes ≡ None) (blank_page 0 some) whole)
  blank_free (inr (inl last)) = last (ap (first_says n) (blank_page (n - 1) (omega (arith, some))) ∙ says_none n)
  blank_free (inr (inr held)) = no_half held.0 held.1 held.2

-- and where the device doesn't fail nothing but memory can be refused
pub memory_alone : (d : Dimensions) → IsGeometry d.format d.extents d.pages d.sections → (s : State) (n : ℕ) (r : Refusal) → s ≡ blank_disk d → n ≡ length s.durable
    → (r ≡ NotAStore) ⊎ (r ≡ Occupied) ⊎ (r ≡ DeviceFault) ⊎ (r ≡ OutOfMemory) → (r ≡ NotAStore) ↔ (n ≢ pages_of d)
    → (r ≡ Occupied → IsTaken n (seen s) (store_version (Some d)) (store_pairs d)) → (r ≡ DeviceFault → Rises 0 0) → r ≡ OutOfMemory
memory_alone d g s n r is long why other taken failed = by why
  where
    size : n ≡ pages_of d
    size = long ∙ ap (λ (z : State). length z.durable) is ∙ length-replicate {A = List ℕ} (pages_of d) zeros

    by : (r ≡ NotAStore) ⊎ (r ≡ Occupied) ⊎ (r ≡ DeviceFault) ⊎ (r ≡ OutOfMemory) → r ≡ OutOfMemory
    by (inl no_store) = absurd (other.0 no_store size)
    by (inr (inl occupied)) = absurd (blank_free d g n (seen s) size (ap seen is) (taken occupied))
    by (inr (inr (inl fault))) = absurd (let rises = failed fault in omega (arith, rises))
    by (inr (inr (inr memory))) = memory

-- zeros are no first section, by their first three bytes
zero_magic : superblock_fault of_number.Two zeros ≡ Some BadMagic
zero_magic = refl

pub zero_fault : page_zero_fault zeros ≡ Some BadMagic
zero_fault =
    sym (frames.zero_second zeros (λ is. let none : slice_index zeros 3 ≡ 0 = refl in omega (arith, is, none))) ∙ ap (λ (n : FormatNumber). superblock_fault n zeros) zero_two ∙ zero_magic
  where
    zero_two : zero_format zeros ≡ of_number.Two
    zero_two = refl
