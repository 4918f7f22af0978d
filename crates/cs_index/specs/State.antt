-- What an index is, in the words of the store's machine.
use Rattle.std.specs.Prelude.{◌≡◌, ◌≢◌, false, ℕ, ◌<◌, ◌≤◌, ◌==◌, List, [], ◌∷◌, ◌++◌, Option, Some, None, length, map, if◌then◌else◌}
use Rattle.std.specs.List.{AllByRecursion}
use Rattle.cs_frame.specs.Bytes.{IsBytes}
use Rattle.cs_frame.specs.declared.identifiers.ShardId.{ShardId}
use Rattle.cs_frame.specs.declared.run_frames.Run.{Run as SpelledRun}
use Rattle.cs_frame.specs.Formats.{place_of}
pub use Rattle.cs_frame.specs.Identifiers.{id_number}
use Rattle.cs_frame.specs.Places.{Listed}
use Rattle.cs_index.specs.declared.stored_runs.StoredRun.{StoredRun}
use Rattle.law_machine.specs.Format.{Format}
use Rattle.law_machine.specs.Element.{Entry, Locator as Place, Run}
use Rattle.law_machine.specs.Geometry.{marks_in, weigh_in}
use Rattle.law_machine.specs.Index.{Ascending, entries_of, live_at, lookup, named_weight}

-- sixteen bytes
pub record IsId (id : ShardId) : Type 0 where
  pub bytes : IsBytes id.0
  pub size : length id.0 ≡ 16

-- an entry as the machine has it
abbrev pub named_entry : ShardId × Listed → Entry
named_entry entry = record { id = id_number entry.0; locators = map place_of entry.1.items }

-- the entries of a run that is to be spelled, as the machine has them
abbrev pub named_entries : SpelledRun → List Entry
named_entries run = map named_entry run.entries.items

-- a run as the machine has it
abbrev pub run_of : StoredRun → Run
run_of run = record { place = place_of run.place; entries = map named_entry run.entries.items }

-- runs that are listed oldest first, newest first
abbrev pub newest_first : List StoredRun → List Run
newest_first [] = []
newest_first (run ∷ runs) = newest_first runs ++ run_of run ∷ []

-- an index: what changed since the last run, and the runs
pub record State : Type 0 where
  -- the entries that no run has yet
  pub table : List Entry
  -- the runs, newest first
  pub runs : List Run
  -- the format of the store
  pub format : Format
  -- what the newest entries of all identifiers may weigh together, by the rule of the format
  pub limit : ℕ
  -- so many more entries of the table will ask for no memory
  pub room : ℕ

-- all entries, the last of each identifier first
abbrev pub index_of : State → List Entry
index_of s = s.table ++ entries_of s.runs

-- an entry has at most eight locators
abbrev pub IsShort : Entry → Type 0
IsShort x = length x.locators ≤ 8

-- the entries of a run: some, by rising identifiers, of at most eight locators each
abbrev pub IsStored : Run → Type 0
IsStored run = Ascending run.entries × (run.entries ≢ []) × AllByRecursion IsShort run.entries

-- these places keep to a format: in format 2 none has a mark
abbrev pub KeepTo : (format : Format) → List Place → Type 0
KeepTo format ls = marks_in format ≡ false → AllByRecursion (λ l. l.mark ≡ 0) ls

-- and so do the places of these runs
abbrev pub RunsKeepTo : (format : Format) → List Run → Type 0
RunsKeepTo format runs = marks_in format ≡ false → AllByRecursion (λ run. run.place.mark ≡ 0) runs

-- what every index keeps
pub record IsWhole (s : State) : Type 0 where
  pub ascending : Ascending s.table
  pub short : AllByRecursion IsShort s.table
  pub runs : AllByRecursion IsStored s.runs
  pub few : length s.runs ≤ 24
  pub weight_fits : named_weight (weigh_in s.format) (index_of s) ≤ s.limit
  -- what is looked up keeps to the format, and so do the runs' own places
  pub marks : (id : ℕ) → KeepTo s.format (live_at (index_of s) id)
  pub placed : RunsKeepTo s.format s.runs

-- An identifier has other locators, in the table and so in the whole index, and nothing else changed but the room.
pub record IsSet (old : State) (id : ℕ) (locators : List Place) (new : State) : Type 0 where
  pub table : (d : ℕ) → lookup d new.table ≡ (if id == d then Some locators else lookup d old.table)
  pub index : (d : ℕ) → lookup d (index_of new) ≡ (if id == d then Some locators else lookup d (index_of old))
  pub runs : new.runs ≡ old.runs
  pub format : new.format ≡ old.format
  pub limit : new.limit ≡ old.limit

-- d comes after an identifier, every one where there is none
abbrev pub IsAfter : Option ℕ → ℕ → Type 0
IsAfter None d = Unit {0}
IsAfter (Some id) d = id < d

-- the last entry of the least identifier that has one and comes after this one, if there is one
abbrev pub IsNext : List Entry → (after : Option ℕ) → Option Entry → Type 0
IsNext index after None = (d : ℕ) → IsAfter after d → lookup d index ≡ None
IsNext index after (Some x) =
    IsAfter after x.id × (lookup x.id index ≡ Some x.locators) × ((d : ℕ) → IsAfter after d → d < x.id → lookup d index ≡ None)

-- the value of an index with these fields
abbrev pub state_of : List (ShardId × Listed) → List StoredRun → (format : Format) (limit room : ℕ) → State
state_of table runs format limit room =
    record { table = map named_entry table; runs = newest_first runs; format = format; limit = limit; room = room }
