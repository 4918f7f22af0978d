-- The payload of a run whose entries stand one behind the other, each in the bytes that it needs, and the tests of
-- its decoder in order.
use Rattle.std.specs.Prelude.{◌≡◌, ℕ, zero, suc, ◌+◌, ◌*◌, ◌≤◌, ◌&&◌, ◌==◌, true, List, [], ◌∷◌, ◌++◌, length, drop, flat_map, Option, Some, None, nat_le, slice_index, ⊤}
use Rattle.byteorder.specs.Endian.{big_bytes}
use Rattle.cs_frame.specs.declared.faults.FormatFault.{FormatFault}
use Rattle.cs_frame.specs.declared.faults.FormatFault.TheVariants.{BadLength}
use Rattle.cs_frame.specs.Bytes.{field, number}
use Rattle.cs_frame.specs.Faults.{first_fault, unless}
use Rattle.cs_frame.specs.Locators.{locators_in, spelled_locators}
use Rattle.cs_frame.specs.Runs.{Entry, FitsRun, count_test, greatest_chunks, id_in, order_test}

-- |  0 | 16    | identifier                           |
-- | 16 | 1     | c, the number of locators, at most 8 |
-- | 17 | 16 * c | locators in order of the chunks     |
abbrev pub packed_entry : Entry → List ℕ
packed_entry entry = entry.id ++ length entry.locators ∷ [] ++ spelled_locators true entry.locators

-- so many bytes
abbrev pub packed_size : (chunks : ℕ) → ℕ
packed_size chunks = 17 + 16 * chunks

-- | 0 | 4 | n, the number of entries |
-- | 4 |   | entries                  |
abbrev pub packed_run : List Entry → List ℕ
packed_run entries = big_bytes 4 (length entries) ++ flat_map packed_entry entries

-- the bytes of so many entries together
abbrev pub packed_sizes : List Entry → ℕ
packed_sizes [] = 0
packed_sizes (entry ∷ entries) = packed_size (length entry.locators) + packed_sizes entries

-- the bytes are the spelling of these
pub record SpellsPacked (bytes : List ℕ) (entries : List Entry) : Type 0 where
  pub fits : FitsRun true entries
  pub spelled : bytes ≡ packed_run entries

-- where the entry ends with which these bytes begin
abbrev pub packed_end : List ℕ → ℕ
packed_end bytes = packed_size (slice_index bytes 16)

-- the entry with which they begin
abbrev pub packed_entry_in : List ℕ → Entry
packed_entry_in bytes = record { id = id_in bytes; locators = locators_in true (field 17 (packed_end bytes) bytes) }

-- so many entries, one behind the other
abbrev pub packed_in : (count : ℕ) → List ℕ → List Entry
packed_in zero bytes = []
packed_in (suc count) bytes = packed_entry_in bytes ∷ packed_in count (drop (packed_end bytes) bytes)

-- the entries that a payload spells
abbrev pub packed_entries_in : List ℕ → List Entry
packed_entries_in payload = packed_in (number 0 4 payload) (drop 4 payload)

-- identifier and count are there; so are the locators
abbrev pub head_test : List ℕ → Option FormatFault
head_test bytes = unless (nat_le 17 (length bytes)) BadLength

abbrev pub locators_test : List ℕ → Option FormatFault
locators_test bytes = unless (nat_le (packed_end bytes) (length bytes)) BadLength

-- the tests of the entry with which these bytes begin, after one with this identifier
abbrev pub packed_entry_tests : Option (List ℕ) → List ℕ → List (Option FormatFault)
packed_entry_tests previous bytes =
    head_test bytes ∷ order_test previous (id_in bytes) ∷ count_test bytes ∷ locators_test bytes ∷ []

-- those of so many entries, one after another, and that nothing follows
abbrev pub packed_tests : (count : ℕ) → Option (List ℕ) → List ℕ → List (Option FormatFault)
packed_tests zero previous bytes = unless (length bytes == 0) BadLength ∷ []
packed_tests (suc count) previous bytes =
    packed_entry_tests previous bytes ++ packed_tests count (Some (id_in bytes)) (drop (packed_end bytes) bytes)

-- there is a count, of at least 1
abbrev pub packed_count_test : List ℕ → Option FormatFault
packed_count_test payload = unless (nat_le 4 (length payload) && nat_le 1 (number 0 4 payload)) BadLength

-- what is wrong with a payload as such a run
abbrev pub packed_fault : List ℕ → Option FormatFault
packed_fault payload =
    first_fault (packed_count_test payload ∷ packed_tests (number 0 4 payload) None (drop 4 payload))

-- so many entries are there, as their counts say
abbrev pub AreThere : (count : ℕ) → List ℕ → Type 0
AreThere zero bytes = ⊤
AreThere (suc count) bytes = (17 ≤ length bytes) × (slice_index bytes 16 ≤ greatest_chunks) × (packed_end bytes ≤ length bytes)
    × AreThere count (drop (packed_end bytes) bytes)
