-- How a run is spelled.
use Rattle.std.proofs.Common.{◌≡◌, ◌≤◌, ℕ, ◌+◌, ◌-◌, ◌*◌, Bool, true, false, List, [], ◌∷◌, ◌++◌, length, length-append, map, le_of_eq, le_trans, refl, sym, ap, ap₂, ◌∙◌, arith, take}
use Rattle.std.specs.List.{AllByRecursion, flat_map}
use Rattle.std.proofs.lemmas.List.{length-map, length-replicate, length-take-le}
use Rattle.byteorder.specs.Endian.{big_bytes}
use Rattle.byteorder.specs.Numbers.{length-bytes_high_first}
use Rattle.cs_extent.specs.State.{State as ExtentsState}
use Rattle.cs_frame.proofs.LocatorLaws.{length-spelled_locators}
use Rattle.cs_frame.proofs.Pieces.{length-first_chunks}
use Rattle.cs_frame.proofs.RunWeights.{size_weighs}
use Rattle.cs_frame.specs.Bytes.{zeros}
use Rattle.cs_frame.specs.declared.formats.FormatNumber.{FormatNumber}
use Rattle.cs_frame.specs.FormatNumbers.{number_in}
use Rattle.cs_frame.specs.FormatRuns.{SpellsRun, run_size, spelled_run}
use Rattle.cs_frame.specs.Formats.{as_entry, as_locator, id_bytes, place_of}
use Rattle.cs_frame.specs.Frames.{frame_bytes, page_count, spelled_frame}
use Rattle.cs_frame.specs.Geometries.{FitsFormat, run_bytes, weight_bytes}
use Rattle.cs_frame.specs.Locators.{spelled_locators}
use Rattle.cs_frame.specs.PackedRuns.{packed_entry, packed_run, packed_size, packed_sizes}
use Rattle.cs_frame.specs.Runs.{FitsEntry, entries_of as spelled_entries, entry_of, plain_run, spelled_entry}
use Rattle.cs_frame.specs.declared.identifiers.ShardId.{ShardId}
use Rattle.cs_frame.specs.declared.locators.Locator.{Locator}
use Rattle.cs_frame.specs.Places.{Listed}
use Rattle.cs_index.specs.Staged.{run_frame}
use Rattle.law_machine.specs.Format.{Format, Four, Two}
use Rattle.law_machine.specs.Element.{Entry}
use Rattle.law_machine.specs.Geometry.{marks_in, most_weight_in, weigh_in}
use Rattle.law_machine.specs.Index.{run_weight}
use Rattle.cs_index.specs.State.{IsShort, id_number, named_entry}
use Rattle.cs_index.proofs.Numbers.{bytes_are}

-- ---- the lengths alone, of entries as the machine has them

long_entry : (x : Entry) → IsShort x → length (spelled_entry (as_entry x)) ≡ 81
long_entry x short =
    let ls : List Locator = map as_locator x.locators in
    let left : ℕ = 64 - 8 * length ls in
    omega (
      arith,
      length-append (id_bytes x.id ++ length ls ∷ [] ++ spelled_locators false ls) (zeros left),
      length-append (id_bytes x.id ++ length ls ∷ []) (spelled_locators false ls),
      length-append (id_bytes x.id) (length ls ∷ []),
      length-bytes_high_first 15 x.id,
      length-spelled_locators false ls,
      length-replicate {A = ℕ} left 0,
      length-map x.locators as_locator,
      short,
    )

long_entries : (xs : List Entry) → AllByRecursion IsShort xs → length (flat_map spelled_entry (map as_entry xs)) ≡ 81 * length xs
long_entries [] all = refl
long_entries (x ∷ xs) all = omega (arith, length-append (spelled_entry (as_entry x)) (flat_map spelled_entry (map as_entry xs)), long_entry x all.0, long_entries xs all.1)

long_plain : (xs : List Entry) → AllByRecursion IsShort xs → length (plain_run (map as_entry xs)) ≡ run_bytes (length xs)
long_plain xs all =
    omega (
      arith,
      length-append (big_bytes 4 (length (map as_entry xs))) (flat_map spelled_entry (map as_entry xs)),
      length-bytes_high_first 4 (length (map as_entry xs)),
      long_entries xs all,
    )

-- and of packed ones
long_packed_entry : (x : Entry) → length (packed_entry (as_entry x)) ≡ packed_size (length (map as_locator x.locators))
long_packed_entry x =
    let ls : List Locator = map as_locator x.locators in
    omega (
      arith,
      length-append (id_bytes x.id ++ length ls ∷ []) (spelled_locators true ls),
      length-append (id_bytes x.id) (length ls ∷ []),
      length-bytes_high_first 15 x.id,
      length-spelled_locators true ls,
    )

long_packed_entries : (xs : List Entry) → length (flat_map packed_entry (map as_entry xs)) ≡ packed_sizes (map as_entry xs)
long_packed_entries [] = refl
long_packed_entries (x ∷ xs) = omega (arith, length-append (packed_entry (as_entry x)) (flat_map packed_entry (map as_entry xs)), long_packed_entry x, long_packed_entries xs)

long_packed : (xs : List Entry) → length (packed_run (map as_entry xs)) ≡ 4 + packed_sizes (map as_entry xs)
long_packed xs =
    omega (
      arith,
      length-append (big_bytes 4 (length (map as_entry xs))) (flat_map packed_entry (map as_entry xs)),
      length-bytes_high_first 4 (length (map as_entry xs)),
      long_packed_entries xs,
    )

-- ---- of entries as the code has them

same_sizes : (xs : List (ShardId × Listed)) → packed_sizes (map as_entry (map named_entry xs)) ≡ packed_sizes (spelled_entries xs)
same_sizes [] = refl
same_sizes (x ∷ xs) = omega (arith, length-map (map place_of x.1.items) as_locator, length-map x.1.items place_of, same_sizes xs)

long_run : (format : Format) (xs : List (ShardId × Listed)) → FitsFormat format → AllByRecursion IsShort (map named_entry xs)
    → length (spelled_run format (map as_entry (map named_entry xs))) ≡ run_size format (spelled_entries xs)
long_run Two xs fits all = omega (arith, long_plain (map named_entry xs) all, length-map xs named_entry, length-map xs entry_of)
long_run (Four store device) xs fits all =
    let size : length store ≡ 16 = fits.0.size in
    let front : length (take 8 store) ≡ 8 = length-take-le 8 store (omega (arith, size)) in
    omega (arith, front, length-append (take 8 store) (packed_run (map as_entry (map named_entry xs))), long_packed (map named_entry xs), same_sizes xs)

-- how many pages the frame of a run has
pub run_pages : (x : ExtentsState) (xs : List (ShardId × Listed)) → FitsFormat x.format → AllByRecursion IsShort (map named_entry xs)
    → length (run_frame x (map named_entry xs)) ≡ page_count (run_size x.format (spelled_entries xs))
unfolding run_frame
run_pages x xs fits all =
    let payload : List ℕ = spelled_run x.format (map as_entry (map named_entry xs)) in
    length-first_chunks 4096 (page_count (length payload)) (frame_bytes (number_in x.format) 1 payload) ∙ ap page_count (long_run x.format xs fits all)

-- it takes what its entries weigh, and no more than an extent where they weigh no more than they may
same_size : (format : Format) (xs : List (ShardId × Listed)) → run_size format (map as_entry (map named_entry xs)) ≡ run_size format (spelled_entries xs)
same_size Two xs = ap run_bytes (length-map (map named_entry xs) as_entry ∙ length-map xs named_entry ∙ sym (length-map xs entry_of))
same_size (Four store device) xs = ap (λ (n : ℕ). 12 + n) (same_sizes xs)

bytes_most : (format : Format) (pages weight : ℕ) → 2 ≤ pages → weight ≤ most_weight_in format pages → weight_bytes format weight ≤ 4096 * pages - 41
bytes_most Two pages weight two light = omega (arith, light, two)
bytes_most (Four store device) pages weight two light = omega (arith, light, two)

pub size_most : (format : Format) (pages : ℕ) (xs : List (ShardId × Listed)) → 2 ≤ pages → run_weight (weigh_in format) (map named_entry xs) ≤ most_weight_in format pages → run_size format (spelled_entries xs) ≤ 4096 * pages - 41
size_most format pages xs two light =
    let size : run_size format (spelled_entries xs) ≡ weight_bytes format (run_weight (weigh_in format) (map named_entry xs)) = sym (same_size format xs) ∙ size_weighs format (map named_entry xs) in
    le_trans (le_of_eq size) (bytes_most format pages (run_weight (weigh_in format) (map named_entry xs)) two light)

pub pages_most : (format : Format) (pages : ℕ) (xs : List (ShardId × Listed)) → 2 ≤ pages → run_weight (weigh_in format) (map named_entry xs) ≤ most_weight_in format pages
    → (1 ≤ page_count (run_size format (spelled_entries xs))) × (page_count (run_size format (spelled_entries xs)) ≤ pages)
pages_most format pages xs two light =
    let most : run_size format (spelled_entries xs) ≤ 4096 * pages - 41 = size_most format pages xs two light in
    (omega arith, omega (arith, most, two))

-- ---- what is encoded

same_locators : (ls : List Locator) → map as_locator (map place_of ls) ≡ ls
same_locators [] = refl
same_locators (l ∷ ls) = ap (λ ms. l ∷ ms) (same_locators ls)

same_entry : {marked : Bool} (x : ShardId × Listed) → FitsEntry marked (entry_of x) → as_entry (named_entry x) ≡ entry_of x
same_entry x fits =
    let id : id_bytes (id_number x.0) ≡ x.0.0 = bytes_are x.0 (record { bytes = fits.bytes; size = fits.size }) in
    let locators : map as_locator (map place_of x.1.items) ≡ x.1.items = same_locators x.1.items in
    λ i. record { id = id i; locators = locators i }

same_entries : (marked : Bool) (xs : List (ShardId × Listed)) → AllByRecursion (FitsEntry marked) (spelled_entries xs) → map as_entry (map named_entry xs) ≡ spelled_entries xs
same_entries marked [] all = refl
same_entries marked (x ∷ xs) all = ap₂ (λ e es. e ∷ es) (same_entry {marked = marked} x all.0) (same_entries marked xs all.1)

short_entries : (marked : Bool) (xs : List (ShardId × Listed)) → AllByRecursion (FitsEntry marked) (spelled_entries xs) → AllByRecursion IsShort (map named_entry xs)
short_entries marked [] all = tt
short_entries marked (x ∷ xs) all = ((let few : length x.1.items ≤ 8 = all.0.count in omega (arith, few, length-map x.1.items place_of)), short_entries marked xs all.1)

-- a payload that spells these entries, and the pages of its frame
module _ (format : Format) (fits : FitsFormat format) (xs : List (ShardId × Listed)) (payload bytes : List ℕ) (same : payload ≡ bytes) (spells : SpellsRun bytes format (spelled_entries xs)) where
  payload_is : payload ≡ spelled_run format (map as_entry (map named_entry xs))
  payload_is = same ∙ spells.spelled ∙ ap (spelled_run format) (sym (same_entries (marks_in format) xs spells.fits.each))

  pub payload_length : length payload ≡ run_size format (spelled_entries xs)
  payload_length = ap length payload_is ∙ long_run format xs fits (short_entries (marks_in format) xs spells.fits.each)

  pub payload_frame : (number : FormatNumber) → number ≡ number_in format → (x : ExtentsState) → x.format ≡ format
      → spelled_frame number 1 payload ≡ run_frame x (map named_entry xs)
  unfolding run_frame
  payload_frame number counted x is =
      ap (λ (n : FormatNumber). spelled_frame n 1 payload) counted
      ∙ ap (spelled_frame (number_in format) 1) payload_is
      ∙ ap (λ (f : Format). spelled_frame (number_in f) 1 (spelled_run f (map as_entry (map named_entry xs)))) (sym is)
