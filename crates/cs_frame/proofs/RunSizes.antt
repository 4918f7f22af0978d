-- How many bytes runs have.
use Rattle.std.proofs.Common.{◌≡◌, ℕ, zero, suc, ◌+◌, ◌*◌, ◌-◌, ◌<◌, ◌≤◌, Bool, true, false, List, [], ◌∷◌, ◌++◌, length, take, get_or, add-one, length-append, refl, sym, subst, ap, ◌∙◌, arith}
use Rattle.std.specs.List.{AllByRecursion, flat_map}
use Rattle.std.proofs.lemmas.List.{length-replicate, length-take-le}
use Rattle.byteorder.specs.Endian.{big_bytes}
use Rattle.cs_frame.specs.Bytes.{zeros}
use Rattle.cs_frame.specs.FormatRuns.{SpellsRun, run_size, spelled_run}
use Rattle.cs_frame.specs.Geometries.{FitsFormat}
use Rattle.cs_frame.specs.Locators.{spelled_locators}
use Rattle.cs_frame.specs.PackedRuns.{packed_entry, packed_run, packed_size, packed_sizes}
use Rattle.cs_frame.specs.Places.{Listed}
use Rattle.cs_frame.specs.Runs.{Entry, FitsEntry, entries_of, greatest_chunks, spelled_entry}
use Rattle.cs_frame.specs.declared.identifiers.ShardId.{ShardId}
use Rattle.cs_frame.proofs.LocatorLaws.{length-spelled_locators}
use Rattle.law_machine.specs.Format.{Format, Four, Two}
use Rattle.law_machine.specs.Geometry.{marks_in}

-- an identifier of 16 bytes, and not too many locators
pub record HasSizes (e : Entry) : Type 0 where
  pub id : length e.id ≡ 16
  pub few : length e.locators ≤ greatest_chunks

plain_size : (e : Entry) → HasSizes e → length (spelled_entry e) ≡ 81
plain_size e is =
    let left : ℕ = 64 - 8 * length e.locators in
    let few : length e.locators ≤ 8 = is.few in
    omega (
      arith,
      length-append (e.id ++ length e.locators ∷ [] ++ spelled_locators false e.locators) (zeros left),
      length-append (e.id ++ length e.locators ∷ []) (spelled_locators false e.locators),
      length-append e.id (length e.locators ∷ []),
      length-spelled_locators false e.locators,
      length-replicate {A = ℕ} left 0,
      is.id,
      few,
    )

plain_sizes : (es : List Entry) → AllByRecursion HasSizes es → length (flat_map spelled_entry es) ≡ 81 * length es
plain_sizes [] all = refl
plain_sizes (e ∷ es) all = omega (arith, length-append (spelled_entry e) (flat_map spelled_entry es), plain_size e all.0, plain_sizes es all.1)

packed_long : (e : Entry) → HasSizes e → length (packed_entry e) ≡ packed_size (length e.locators)
packed_long e is = omega (
  arith,
  length-append (e.id ++ length e.locators ∷ []) (spelled_locators true e.locators),
  length-append e.id (length e.locators ∷ []),
  length-spelled_locators true e.locators,
  is.id,
)

packed_longs : (es : List Entry) → AllByRecursion HasSizes es → length (flat_map packed_entry es) ≡ packed_sizes es
packed_longs [] all = refl
packed_longs (e ∷ es) all = omega (arith, length-append (packed_entry e) (flat_map packed_entry es), packed_long e all.0, packed_longs es all.1)

length-packed_run : (es : List Entry) → AllByRecursion HasSizes es → length (packed_run es) ≡ 4 + packed_sizes es
length-packed_run es all = length-append (big_bytes 4 (length es)) (flat_map packed_entry es) ∙ ap (λ (n : ℕ). 4 + n) (packed_longs es all)

-- how many bytes spell a run
pub length-spelled_run : (format : Format) (es : List Entry) → FitsFormat format → AllByRecursion HasSizes es → length (spelled_run format es) ≡ run_size format es
length-spelled_run Two es fits all = length-append (big_bytes 4 (length es)) (flat_map spelled_entry es) ∙ ap (λ (n : ℕ). 4 + n) (plain_sizes es all)
length-spelled_run (Four store device) es fits all = omega (
  arith,
  length-append (take 8 store) (packed_run es),
  length-take-le 8 store (omega (arith, fits.0.size)),
  length-packed_run es all,
)

have_sizes : (marked : Bool) (es : List Entry) → AllByRecursion (FitsEntry marked) es → AllByRecursion HasSizes es
have_sizes marked [] all = tt
have_sizes marked (e ∷ es) all = (record { id = all.0.size; few = all.0.count }, have_sizes marked es all.1)

pub spelled_size : (payload : List ℕ) (format : Format) (es : List Entry) → FitsFormat format → SpellsRun payload format es → length payload ≡ run_size format es
spelled_size payload format es fits s = ap length s.spelled ∙ length-spelled_run format es fits (have_sizes (marks_in format) es s.fits.each)

-- one entry more
pub sizes_more : (es : List (ShardId × Listed)) (i : ℕ) (e : ShardId × Listed) → i < length es → e ≡ get_or es i e
    → packed_sizes (entries_of (take (i + 1) es)) ≡ packed_sizes (entries_of (take i es)) + packed_size (length e.1.items)
sizes_more es i e inside is = ap (λ (n : ℕ). packed_sizes (entries_of (take n es))) (add-one i) ∙ more es i inside
    ∙ ap (λ (x : ShardId × Listed). packed_sizes (entries_of (take i es)) + packed_size (length x.1.items)) (sym is)
  where
    more : (es : List (ShardId × Listed)) (i : ℕ) → i < length es
        → packed_sizes (entries_of (take (suc i) es)) ≡ packed_sizes (entries_of (take i es)) + packed_size (length (get_or es i e).1.items)
    more [] i inside = absurd (omega arith)
    more (x ∷ es) zero inside = omega arith
    more (x ∷ es) (suc i) inside = omega (arith, more es i (omega arith))

-- of which each has at most eight locators
pub one_few : (es : List (ShardId × Listed)) (i : ℕ) (e : ShardId × Listed) → i < length es → e ≡ get_or es i e
    → AllByRecursion (λ (x : ShardId × Listed). length x.1.items ≤ greatest_chunks) es → length e.1.items ≤ 8
one_few es i e inside is all = subst (λ (x : ShardId × Listed). length x.1.items ≤ 8) (sym is) (few es i inside all)
  where
    few : (es : List (ShardId × Listed)) (i : ℕ) → i < length es
        → AllByRecursion (λ (x : ShardId × Listed). length x.1.items ≤ greatest_chunks) es → length (get_or es i e).1.items ≤ 8
    few [] i inside all = absurd (omega arith)
    few (x ∷ es) zero inside all = all.0
    few (x ∷ es) (suc i) inside all = few es i (omega arith) all.1
