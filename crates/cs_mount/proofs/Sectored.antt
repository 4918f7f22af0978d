-- A page of which one sector is fenced is whole in no format, unless it has an extent of the greatest numbers.
use Rattle.std.proofs.Common.{◌≡◌, ◌≢◌, ⊎_elim, ℕ, zero, suc, ◌+◌, ◌-◌, ◌*◌, ◌/◌, ◌<◌, ◌≤◌, true, List, None, drop, length, map, replicate, slice_index, take, refl, sym, ◌∙◌, ap, subst, arith}
use Rattle.std.proofs.lemmas.Bool.{cases_eq, cases_lt}
use Rattle.std.proofs.lemmas.List.{drop-drop, ext_get_or, get_or-drop, get_or-replicate, get_or-take, length-drop, length-replicate, length-take-le}
use Rattle.std.specs.List.{AllByRecursion}
use Rattle.std.specs.Simd.{first_chunks}
use Rattle.cs_frame.specs.Bytes.{IsPage, all_zero, field, number}
use Rattle.cs_frame.specs.FirstFormat.{first_format_end, first_format_extents, first_format_fault, page_zero_fault, zero_format}
use Rattle.cs_frame.specs.declared.formats.FormatNumber.{FormatNumber}
use Rattle.cs_frame.specs.declared.formats.FormatNumber.TheVariants as of_number
use Rattle.cs_frame.specs.FormatNumbers.{is_marked, page_digit, section_digit}
use Rattle.cs_frame.specs.Geometries.{greatest_superblock_extents, in_bounds}
use Rattle.cs_frame.specs.Locators.{locator_size}
use Rattle.cs_frame.specs.Pointers.{extent_in, extents_from}
use Rattle.cs_frame.specs.Roots.{count_at, root_count, root_end, root_fault}
use Rattle.cs_frame.specs.Superblocks.{extents_said, format_in, pages_said, section_count, superblock_end, superblock_extents, superblock_fault, superblock_start}
use Rattle.cs_frame.proofs.ExtentPageLaws.{sound}
use Rattle.cs_frame.proofs.FirstFormatLaws as frames
use Rattle.cs_frame.proofs.GeometryLaws.{within}
use Rattle.cs_frame.proofs.RootLaws as roots
use Rattle.cs_frame.proofs.SuperblockLaws as superblocks
use Rattle.cs_frame.proofs.TestLaws.{all_zeros}
use Rattle.law_machine.specs.Format.{Two}
use Rattle.cs_mount.specs.Sectors.{HasFencedSector}

-- ---- bytes at a place

-- behind its fields a page has zeros
zero_at : (bytes : List ℕ) (end i : ℕ) → all_zero (drop end bytes) ≡ true → end ≤ i → i < length bytes → slice_index bytes i ≡ 0
zero_at bytes end i zeros le lt =
    let place : end + (i - end) ≡ i = omega (arith, le) in
    let long = length-drop end bytes in
    sym (get_or-drop end bytes (i - end) 0 ∙ ap (slice_index bytes) place) ∙ ap (λ (l : List ℕ). slice_index l (i - end)) (all_zeros (drop end bytes) zeros)
    ∙ get_or-replicate (length (drop end bytes)) (i - end) 0 0 (omega (arith, le, lt, long))

-- the rows of a section, six bytes each
chunk_at : (P : ℕ × ℕ → Type 0) (n i : ℕ) (bytes : List ℕ) → AllByRecursion P (map extent_in (first_chunks 6 n bytes)) → i < n → P (extent_in (take 6 (drop (6 * i) bytes)))
chunk_at P zero i bytes all lt = absurd (omega (arith, lt))
chunk_at P (suc n) zero bytes all lt = let none : 6 * zero ≡ 0 = omega arith in subst (λ k. P (extent_in (take 6 (drop k bytes)))) (sym none) all.0
chunk_at P (suc n) (suc i) bytes all lt =
    let more : 6 + 6 * i ≡ 6 * suc i = omega arith in
    subst (λ (l : List ℕ). P (extent_in (take 6 l))) (drop-drop (6 * i) 6 bytes ∙ ap (λ k. drop k bytes) more) (chunk_at P n i (drop 6 bytes) all.1 (omega (arith, lt)))

-- a row of bytes of 255
full_row : (bytes : List ℕ) (k : ℕ) → k + 6 ≤ length bytes → ((j : ℕ) → j < 6 → slice_index bytes (k + j) ≡ 255) → take 6 (drop k bytes) ≡ replicate 6 255
full_row bytes k le full =
    let long = length-drop k bytes in
    let size : length (take 6 (drop k bytes)) ≡ 6 = length-take-le 6 (drop k bytes) (omega (arith, le, long)) in
    let six = length-replicate {A = ℕ} 6 255 in
    ext_get_or 0 (take 6 (drop k bytes)) (replicate 6 255) (size ∙ sym six)
    (λ j lt. let few : j < 6 = omega (arith, lt, size) in get_or-take 6 (drop k bytes) j 0 few ∙ get_or-drop k bytes j 0 ∙ full j few ∙ sym (get_or-replicate 6 j 255 0 few))

-- Of a page whose rows lie between start and end, and zeros after the digest, a row lies in the sector.
module _ (page : List ℕ) (size : length page ≡ 4096) (start end count q : ℕ) (rows : start + 6 * count ≡ end) (inside : end + 32 ≤ 4096) (early : start ≤ 512) (padding : all_zero (drop (end + 32) page) ≡ true)
    (some : 0 < q) (few : q < 8) (full : (i : ℕ) → i < 512 → slice_index page (512 * q + i) ≡ 255) where
  -- the sector ends before the zeros
  before_end : 512 * q + 512 ≤ end + 32
  before_end = ⊎_elim
      (λ (lt : end + 32 < 512 * q + 512). absurd (let last : 512 * q + 511 < length page = omega (arith, few, size) in
      let zero_there = zero_at page (end + 32) (512 * q + 511) padding (omega (arith, lt)) last in
      let fence_there = full 511 (omega arith) in omega (arith, zero_there, fence_there)))
      (λ (le : 512 * q + 512 ≤ end + 32). le)
      (cases_lt (end + 32) (512 * q + 512))

  -- the first row in it
  abbrev i : ℕ
  i = (512 * q - start + 5) / 6

  row_in : (512 * q ≤ start + 6 * i) × (start + 6 * i ≤ 512 * q + 5)
  row_in = (omega (arith, early, some), omega (arith, early, some))

  full_there : (P : ℕ × ℕ → Type 0) → AllByRecursion P (extents_from (field start end page)) → P (65535, 4294967295)
  full_there P all =
      let low = row_in.0 in
      let high = row_in.1 in
      let from = length-drop start page in
      let long : length (field start end page) ≡ end - start = length-take-le (end - start) (drop start page) (omega (arith, from, size, inside)) in
      let many : length (field start end page) / 6 ≡ count = omega (arith, long, rows) in
      let lt : i < length (field start end page) / 6 = omega (arith, many, high, before_end, rows) in
      let row = chunk_at P (length (field start end page) / 6) i (field start end page) all lt in
      subst (λ (l : List ℕ). P (extent_in l))
      (full_row (field start end page) (6 * i) (omega (arith, lt, many, long, rows))
      (λ j few_j.
      let place : start + (6 * i + j) ≡ 512 * q + (start + 6 * i + j - 512 * q) = omega (arith, low) in
      get_or-take (end - start) (drop start page) (6 * i + j) 0 (omega (arith, few_j, high, before_end, rows)) ∙ get_or-drop start page (6 * i + j) 0 ∙ ap (slice_index page) place ∙ full (start + 6 * i + j - 512 * q) (omega (arith, few_j, low, high))))
      row

-- ---- in each format

-- the fourth byte is one of the first sector
fourth_full : (page : List ℕ) (q : ℕ) → q ≡ 0 → ((i : ℕ) → i < 512 → slice_index page (512 * q + i) ≡ 255) → slice_index page 3 ≡ 255
fourth_full page q first full = let place : 512 * q + 3 ≡ 3 = omega (arith, first) in ap (slice_index page) (sym place) ∙ full 3 (omega arith)

root_few : (n : FormatNumber) → (page_digit n ≡ 255 → ⊥) × ((count : ℕ) → count ≤ 24 → 1 + count_at n + locator_size (is_marked n) * count + 32 ≤ 512)
root_few of_number.Two = ((λ is. omega (arith, is)), (λ count le. omega (arith, le)))
root_few of_number.Four = ((λ is. omega (arith, is)), (λ count le. omega (arith, le)))

pub no_root : (n : FormatNumber) (page : List ℕ) → IsPage page → HasFencedSector page → root_fault n page ≢ None
no_root n page is has whole =
    let it = roots.sound n page is.size whole in
    let rules = root_few n in
    let most = roots.most_runs n in
    let end = rules.1 (root_count n page) (omega (arith, it.count, most)) in
    let size = is.size in
    let few = has.1 in
    ⊎_elim
    (λ (first : has.0 ≡ 0). rules.0 (sym (roots.fourth_is n page whole) ∙ fourth_full page has.0 first has.2))
    (λ (later : has.0 ≢ 0).
    let zero_there = zero_at page (root_end n page + 32) (512 * has.0 + 0) it.padding (omega (arith, end, later)) (omega (arith, few, size)) in
    let fence_there = has.2 0 (omega arith) in omega (arith, zero_there, fence_there))
    (cases_eq has.0 0)

section_few : (n : FormatNumber) → 255 ≡ section_digit n → ⊥
section_few of_number.Two is = omega (arith, is)
section_few of_number.Four is = omega (arith, is)

-- a section: one of its extents is full
pub section_full : (n : FormatNumber) (page : List ℕ) → IsPage page → HasFencedSector page → superblock_fault n page ≡ None → (P : ℕ × ℕ → Type 0) → AllByRecursion P (superblock_extents n page) → P (65535, 4294967295)
section_full n page is has whole P all =
    let it = sound page (section_digit n) (superblocks.counts n page) (superblock_end n page) (superblock_extents n page) is.size whole in
    let format = format_in n page in
    let numbers = superblocks.counted format (extents_said page) (pages_said page) (slice_index page 16) (slice_index page 17) (superblocks.format_read_fits n page is) it.counted in
    let early = superblocks.low_start n in
    ⊎_elim
    (λ (first : has.0 ≡ 0). absurd (section_few n (sym (fourth_full page has.0 first has.2) ∙ superblocks.fourth_is n page whole)))
    (λ (later : has.0 ≢ 0).
    full_there page is.size (superblock_start n) (superblock_end n page) (section_count page) has.0 refl (superblocks.end_in_page n format _ _ _ (slice_index page 17) numbers.geometry) (omega (arith, early)) it.padding (omega (arith, later)) has.1 has.2 P all)
    (cases_eq has.0 0)

-- in the first format none can be, since no extent has so many pages
pub no_first : (page : List ℕ) → IsPage page → HasFencedSector page → first_format_fault page ≢ None
no_first page is has whole =
    let it = sound page 49 (in_bounds Two greatest_superblock_extents (number 12 14 page) (number 14 16 page)) (first_format_end page) (first_format_extents page) is.size whole in
    let bounds = within Two greatest_superblock_extents (number 12 14 page) (number 14 16 page) it.counted in
    ⊎_elim
    (λ (first : has.0 ≡ 0). let fourth = frames.fourth_is page whole in let full = fourth_full page has.0 first has.2 in omega (arith, fourth, full))
    (λ (later : has.0 ≢ 0).
    let most = full_there page is.size 16 (first_format_end page) (number 12 14 page) has.0 refl (omega (arith, bounds.most_extents)) (omega arith) it.padding (omega (arith, later)) has.1 has.2 (λ (row : ℕ × ℕ). row.0 ≤ number 14 16 page) it.pointers in
    omega (arith, most, bounds.most_pages))
    (cases_eq has.0 0)

-- on page 0, in whatever format
pub no_zero : (page : List ℕ) → IsPage page → HasFencedSector page → AllByRecursion (λ (row : ℕ × ℕ). row ≢ (65535, 4294967295)) (superblock_extents (zero_format page) page) → page_zero_fault page ≢ None
no_zero page is has less whole = ⊎_elim
    (λ (first : first_format_fault page ≡ None). no_first page is has first)
    (λ (section : superblock_fault (zero_format page) page ≡ None). section_full (zero_format page) page is has section (λ (row : ℕ × ℕ). row ≢ (65535, 4294967295)) less refl)
    (frames.zero_is_one page whole)

pub no_section : (n : FormatNumber) (page : List ℕ) → IsPage page → HasFencedSector page → AllByRecursion (λ (row : ℕ × ℕ). row ≢ (65535, 4294967295)) (superblock_extents n page) → superblock_fault n page ≢ None
no_section n page is has less whole = section_full n page is has whole (λ (row : ℕ × ℕ). row ≢ (65535, 4294967295)) less refl
