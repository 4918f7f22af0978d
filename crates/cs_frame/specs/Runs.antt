-- The payload of a run, entry by entry, and the tests of its decoder in order.
use Rattle.std.specs.Prelude.{◌≡◌, ℕ, ◌+◌, ◌-◌, ◌*◌, ◌/◌, ◌^◌, ◌<◌, ◌≤◌, ◌&&◌, ◌==◌, Bool, true, false, List, [], ◌∷◌, ◌++◌, length, take, drop, map, flat_map, Option, Some, None, nat_le, slice_index, ⊤}
use Rattle.std.specs.List.{AllByRecursion}
use Rattle.std.specs.Simd.{first_chunks}
use Rattle.std.specs.Cmp.Lexicographic.{slice_cmp}
use Rattle.std.specs.Ordering.{is_lt, nat_cmp}
use Rattle.byteorder.specs.Endian.{big_bytes}
use Rattle.cs_frame.specs.declared.faults.FormatFault.{FormatFault}
use Rattle.cs_frame.specs.declared.faults.FormatFault.TheVariants.{BadLength, BadPadding, OutOfOrder}
use Rattle.cs_frame.specs.declared.identifiers.ShardId.{ShardId}
use Rattle.cs_frame.specs.declared.locators.Locator.{Locator}
use Rattle.cs_frame.specs.declared.run_frames.Run.{Run}
use Rattle.cs_frame.specs.Bytes.{IsBytes, all_zero, field, number, zeros}
use Rattle.cs_frame.specs.Faults.{first_fault, unless}
use Rattle.cs_frame.specs.Geometries.{run_bytes}
use Rattle.cs_frame.specs.Locators.{FitsLocator, KeepMarks, locators_in, spelled_locators}
use Rattle.cs_frame.specs.Places.{Listed}
use Rattle.law_machine.specs.Format.{Format}
use Rattle.law_machine.specs.Geometry.{marks_in}

-- the greatest number of chunks of a shard
abbrev pub greatest_chunks : ℕ
greatest_chunks = 8

-- an entry without where it lies in memory: the bytes of its identifier, and its locators, none for a deletion
pub record Entry : Type 0 where
  pub id : List ℕ
  pub locators : List Locator

-- an entry as the code has it
abbrev pub entry_of : ShardId × Listed → Entry
entry_of entry = record { id = entry.0.0; locators = entry.1.items }

-- the entries of a run that code holds
abbrev pub entries_of : List (ShardId × Listed) → List Entry
entries_of entries = map entry_of entries

-- |  0         | 16         | identifier                             |
-- | 16         | 1          | c, the number of locators, at most 8   |
-- | 17         | 8 * c      | locators in order of the chunks        |
-- | 17 + 8 * c | 64 - 8 * c | zeros                                  |
abbrev pub spelled_entry : Entry → List ℕ
spelled_entry entry =
    entry.id ++ length entry.locators ∷ [] ++ spelled_locators false entry.locators ++ zeros (64 - 8 * length entry.locators)

-- | 0 | 4      | n, the number of entries |
-- | 4 | 81 * n | entries                  |
abbrev pub plain_run : List Entry → List ℕ
plain_run entries = big_bytes 4 (length entries) ++ flat_map spelled_entry entries

-- one identifier is less than another, by bytes
abbrev pub is_before : List ℕ → List ℕ → Bool
is_before a b = is_lt (slice_cmp nat_cmp a b)

-- each identifier is greater than the one before
abbrev pub Rises : List Entry → Type 0
Rises [] = ⊤
Rises (x ∷ []) = ⊤
Rises (x ∷ y ∷ entries) = (is_before x.id y.id ≡ true) × Rises (y ∷ entries)

-- an entry that has a spelling, where locators have marks or not
pub record FitsEntry (marked : Bool) (entry : Entry) : Type 0 where
  pub size : length entry.id ≡ 16
  pub bytes : IsBytes entry.id
  pub count : length entry.locators ≤ greatest_chunks
  pub each : AllByRecursion (FitsLocator marked) entry.locators

-- what has a spelling
pub record FitsRun (marked : Bool) (entries : List Entry) : Type 0 where
  pub some : 1 ≤ length entries
  pub most : length entries < 2 ^ 32
  pub each : AllByRecursion (FitsEntry marked) entries
  pub rising : Rises entries

-- the bytes are the spelling of these
pub record SpellsPlain (bytes : List ℕ) (entries : List Entry) : Type 0 where
  pub fits : FitsRun false entries
  pub spelled : bytes ≡ plain_run entries

-- a run that can be spelled, with marks or without: what its type doesn't say of its entries
pub record IsMarkedRun (marked : Bool) (run : Run) : Type 0 where
  pub some : 1 ≤ length run.entries.items
  pub most : length run.entries.items < 2 ^ 32
  pub counts : AllByRecursion (λ entry. length entry.1.items ≤ greatest_chunks) run.entries.items
  pub rising : Rises (entries_of run.entries.items)
  pub marks : AllByRecursion (λ entry. KeepMarks marked entry.1.items) run.entries.items

-- a run that can be spelled in this format
abbrev pub IsRun : Format → Run → Type 0
IsRun format run = IsMarkedRun (marks_in format) run

-- the pieces of 81 bytes, one for each entry
abbrev pub pieces_in : List ℕ → List (List ℕ)
pieces_in payload = first_chunks 81 (length (drop 4 payload) / 81) (drop 4 payload)

-- the identifier of a piece
abbrev pub id_in : List ℕ → List ℕ
id_in piece = take 16 piece

-- where the zeros of a piece begin
abbrev pub entry_end : List ℕ → ℕ
entry_end piece = 17 + 8 * slice_index piece 16

-- the entry that a piece spells
abbrev pub entry_in : List ℕ → Entry
entry_in piece = record { id = id_in piece; locators = locators_in false (field 17 (entry_end piece) piece) }

-- the entries that a payload spells
abbrev pub entries_in : List ℕ → List Entry
entries_in payload = map entry_in (pieces_in payload)

-- a count of at least 1, and as many bytes as it says
abbrev pub run_length_test : List ℕ → Option FormatFault
run_length_test payload =
    unless (nat_le 4 (length payload) && nat_le 1 (number 0 4 payload) && length payload == run_bytes (number 0 4 payload)) BadLength

-- the identifier is greater than the one before, if there is one
abbrev pub order_test : (previous : Option (List ℕ)) → (id : List ℕ) → Option FormatFault
order_test None id = None
order_test (Some previous) id = unless (is_before previous id) OutOfOrder

-- not too many locators
abbrev pub count_test : List ℕ → Option FormatFault
count_test piece = unless (nat_le (slice_index piece 16) greatest_chunks) BadLength

-- after the locators there are zeros alone
abbrev pub zeros_test : List ℕ → Option FormatFault
zeros_test piece = unless (all_zero (drop (entry_end piece) piece)) BadPadding

-- the tests of the entry after one with this identifier
abbrev pub entry_tests : Option (List ℕ) → List ℕ → List (Option FormatFault)
entry_tests previous piece = order_test previous (id_in piece) ∷ count_test piece ∷ zeros_test piece ∷ []

-- those of one entry after another
abbrev pub entries_tests : Option (List ℕ) → List (List ℕ) → List (Option FormatFault)
entries_tests previous [] = []
entries_tests previous (piece ∷ pieces) = entry_tests previous piece ++ entries_tests (Some (id_in piece)) pieces

-- the tests of a run in order
abbrev pub plain_tests : List ℕ → List (Option FormatFault)
plain_tests payload = run_length_test payload ∷ entries_tests None (pieces_in payload)

-- what is wrong with a payload as a run
abbrev pub plain_fault : List ℕ → Option FormatFault
plain_fault payload = first_fault (plain_tests payload)
