-- What staging an index merges: the table and so many of the newest runs.
use Rattle.std.specs.List.{AllByRecursion}
use Rattle.std.specs.Prelude.{◌≤◌, ◌*◌, ◌++◌, ◌&&◌, ◌||◌, ℕ, Bool, List, length, take, nat_le, nat_lt, if◌then◌else◌}
use Rattle.cs_frame.specs.declared.run_frames.Run.{Run as SpelledRun}
use Rattle.law_machine.specs.Device.{Shape}
use Rattle.law_machine.specs.Element.{Entry}
use Rattle.law_machine.specs.Geometry.{weigh_in}
use Rattle.law_machine.specs.Index.{entries_of, names, run_weight}
use Rattle.law_machine.specs.Merges.{IsRunOf, reaching, sizes}
use Rattle.law_machine.specs.Tally.{dead_weight}
use Rattle.cs_index.specs.State.{IsId, IsShort, State, index_of, named_entries}

-- the entries of the table and of the newest k runs
abbrev pub part : State → ℕ → List Entry
part s k = s.table ++ entries_of (take k s.runs)

-- a run of the table and of the newest k runs, with their deletions or without them: it can be spelled, and weighs no
-- more than it may
pub record IsRunOfPart (s : State) (go : Bool) (k : ℕ) (run : SpelledRun) : Type 0 where
  pub merged : IsRunOf go (part s k) (named_entries run)
  pub ids : AllByRecursion (λ entry. IsId entry.0) run.entries.items
  pub short : AllByRecursion IsShort (named_entries run)
  pub light : run_weight (weigh_in s.format) (named_entries run) ≤ s.limit

-- deletions go where the oldest run takes part; where a Stage doesn't merge by size not where there was no run
abbrev pub deletions_go : Shape → State → ℕ → Bool
deletions_go S s k = nat_le (length s.runs) k && (S.by_size || nat_lt 0 k)

-- how many of the newest runs a Stage merges by size: all where the deletions weigh at least a quarter of what the
-- newest entries may weigh
abbrev pub reached : Shape → State → ℕ
reached S s = if nat_le S.most_weight (4 * dead_weight S.weigh (index_of s)) then length s.runs
    else reaching S (sizes s.runs) (names s.table)

-- how many of the newest runs a Stage merges: by size, or else none of up to three, and all of more
abbrev pub stage_takes : Shape → State → ℕ
stage_takes S s = if S.by_size then reached S s else (if nat_lt (length s.runs) 4 then 0 else length s.runs)
