-- Entries that are read by rising identifiers.
use Rattle.std.specs.Prelude.{◌≡◌, ℕ, ◌≤◌, ◌++◌, List, Option, Some, length, map, option_map, slice_get, slice_index}
use Rattle.std.specs.List.{AllByRecursion}
use Rattle.cs_frame.specs.declared.identifiers.ShardId.{ShardId}
use Rattle.cs_frame.specs.Places.{Listed}
use Rattle.cs_index.specs.declared.stored_runs.StoredRun.{StoredRun}
use Rattle.cs_index.specs.Sorted.{IsPlace, IsStart}
use Rattle.cs_index.specs.State.{IsShort, IsStored, id_number, named_entry, newest_first}
use Rattle.law_machine.specs.Element.{Entry}
use Rattle.law_machine.specs.Index.{Ascending, entries_of}

-- entries, the last of each identifier first, and after which identifier reading goes on
pub record Reading : Type 0 where
  pub index : List Entry
  pub after : Option ℕ

-- the value of a reading with these fields
abbrev pub reading_of : List (ShardId × Listed) → List StoredRun → Option ShardId → Reading
reading_of table runs after =
    record { index = map named_entry table ++ entries_of (newest_first runs); after = option_map id_number after }

-- in each of these runs the entries after an identifier begin at the place listed for it
abbrev pub AreStarts : (after : Option ℕ) → List StoredRun → List ℕ → Type 0
AreStarts after runs places = (k : ℕ) (run : StoredRun) → slice_get runs k ≡ Some run → IsStart after (slice_index places k) (map named_entry run.entries.items)

-- in each of these runs as many entries as its place says have a lesser identifier
abbrev pub ArePlaces : (id : ℕ) → List StoredRun → List ℕ → Type 0
ArePlaces id runs places = (k : ℕ) (run : StoredRun) → slice_get runs k ≡ Some run → IsPlace id (slice_index places k) (map named_entry run.entries.items)

-- a table and runs in which each identifier is found
pub record IsReadable (table : List (ShardId × Listed)) (runs : List StoredRun) : Type 0 where
  pub ascending : Ascending (map named_entry table)
  pub short : AllByRecursion IsShort (map named_entry table)
  pub stored : AllByRecursion IsStored (newest_first runs)
  pub few : length runs ≤ 24

-- what a reading keeps of its fields
pub record IsHeldAt (table : List (ShardId × Listed)) (runs : List StoredRun) (after : Option ShardId) (table_place : ℕ) (run_places : List ℕ) : Type 0 where
  pub readable : IsReadable table runs
  pub in_table : IsStart (option_map id_number after) table_place (map named_entry table)
  pub in_runs : AreStarts (option_map id_number after) runs run_places
