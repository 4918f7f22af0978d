-- The payload of a run in a format. In format 4 it begins with the first eight bytes of the store's identity, and the
-- entries are packed. In format 2 each entry has 81 bytes.
use Rattle.std.specs.Prelude.{◌≡◌, ◌+◌, ℕ, List, [], ◌∷◌, ◌++◌, Option, bytes_eq, drop, length, nat_le, true}
use Rattle.cs_frame.specs.declared.faults.FormatFault.{FormatFault}
use Rattle.cs_frame.specs.declared.faults.FormatFault.TheVariants.{BadLength, Misplaced}
use Rattle.cs_frame.specs.Bytes.{field}
use Rattle.cs_frame.specs.Faults.{first_fault, unless}
use Rattle.cs_frame.specs.Geometries.{run_bytes}
use Rattle.cs_frame.specs.PackedRuns.{packed_fault, packed_run, packed_sizes}
use Rattle.cs_frame.specs.Runs.{Entry, FitsRun, plain_fault, plain_run}
use Rattle.law_machine.specs.Format.{Format, Four, Two}
use Rattle.law_machine.specs.Geometry.{marks_in, store_front}

-- In format 4:
-- | 0 | 8 | the first eight bytes of the store's identity |
-- | 8 |   | the packed run                                |
abbrev pub spelled_run : Format → List Entry → List ℕ
spelled_run Two entries = plain_run entries
spelled_run (Four store device) entries = store_front (Four store device) ++ packed_run entries

-- so many bytes
abbrev pub run_size : Format → List Entry → ℕ
run_size Two entries = run_bytes (length entries)
run_size (Four store device) entries = 12 + packed_sizes entries

-- the bytes are the spelling of these
pub record SpellsRun (bytes : List ℕ) (format : Format) (entries : List Entry) : Type 0 where
  pub fits : FitsRun (marks_in format) entries
  pub spelled : bytes ≡ spelled_run format entries

-- the bytes are the spelling of these in a store whose identity begins with this front
pub record SpellsStored (front bytes : List ℕ) (entries : List Entry) : Type 0 where
  pub fits : FitsRun true entries
  pub spelled : bytes ≡ front ++ packed_run entries

-- there are eight bytes, and they are these
abbrev pub front_length_test : List ℕ → Option FormatFault
front_length_test payload = unless (nat_le 8 (length payload)) BadLength

abbrev pub front_test : (front : List ℕ) → List ℕ → Option FormatFault
front_test front payload = unless (bytes_eq (field 0 8 payload) front) Misplaced

-- what is wrong with a payload as a run of the store with this front of its identity
abbrev pub stored_fault : (front : List ℕ) → List ℕ → Option FormatFault
stored_fault front payload =
    first_fault (front_length_test payload ∷ front_test front payload ∷ packed_fault (drop 8 payload) ∷ [])

-- what is wrong with a payload as a run
abbrev pub run_fault : Format → List ℕ → Option FormatFault
run_fault Two payload = plain_fault payload
run_fault (Four store device) payload = stored_fault (store_front (Four store device)) payload
