-- What staging an index does where chunks and runs lie apart.
use Rattle.std.specs.Prelude.{◌⊎◌, ℕ, true, List, length, if◌then◌else◌}
use Rattle.cs_deps.specs.Staging.{Staging}
use Rattle.cs_deps.specs.State.{State as GraphState}
use Rattle.cs_extent.specs.State.{State as ExtentsState, extents_of, shape}
use Rattle.law_machine.specs.Apart.{is_none}
use Rattle.law_machine.specs.Device.{Shape}
use Rattle.law_machine.specs.Element.{Entry}
use Rattle.law_machine.specs.Extents.{ForMerge, ForRun, GoesApart, Purpose as Reason}
use Rattle.cs_index.specs.Merges.{deletions_go, stage_takes}
use Rattle.cs_index.specs.Staged.{IsPartStagedBy, IsRootWorn, IsRunWornBy, WritesPart, run_frame}
use Rattle.cs_index.specs.State.{State}

-- how many of the newest runs a Stage merges: none where the table is empty
abbrev pub takes_apart : Shape → State → ℕ
takes_apart S s = if is_none s.table then 0 else stage_takes S s

-- a run is to be written, and no extent takes its pages
abbrev pub IsFullApart : (List Entry → Type 0) → ExtentsState → Reason → Type 0
IsFullApart Writes x reason = (entries : List Entry) × Writes entries
    × ((e : ℕ) → ¬ GoesApart (shape x) (extents_of x) reason (length (run_frame x entries)) e)

-- a run is to be written, an extent takes its pages, and a number of its frame would pass 2^63 - 1
abbrev pub IsRunWornApart : (List Entry → Type 0) → ExtentsState → Reason → Staging → Type 0
IsRunWornApart Writes x reason staging = IsRunWornBy true Writes x reason staging

-- the run of the table and of the newest k runs, if it has an entry, without deletions where they go
abbrev pub WritesNewest : Shape → State → (k : ℕ) → List Entry → Type 0
WritesNewest S s k entries = WritesPart (deletions_go S s k) s k entries

-- the table and the newest k runs became one run for this purpose, without deletions where they go, and the root was
-- staged
abbrev pub IsNewestStagedApart : (k : ℕ) → State → ExtentsState → GraphState → Reason → (v commands : ℕ) → State → ExtentsState → GraphState → Type 0
IsNewestStagedApart k s x g reason v commands t y h = IsPartStagedBy true (deletions_go (shape x) s k) k s x g reason v commands t y h

-- a Stage merged as many of the newest runs as it takes; where that run goes nowhere all of them, onto an empty extent
abbrev pub IsStagedApart : State → ExtentsState → GraphState → (v commands : ℕ) → State → ExtentsState → GraphState → Type 0
IsStagedApart s x g v commands t y h =
    IsNewestStagedApart (takes_apart (shape x) s) s x g ForRun v commands t y h
    ⊎ (IsFullApart (WritesNewest (shape x) s (takes_apart (shape x) s)) x ForRun
    × IsNewestStagedApart (length s.runs) s x g ForMerge v commands t y h)

-- neither run goes anywhere
abbrev pub IsStageFullApart : State → ExtentsState → Type 0
IsStageFullApart s x = IsFullApart (WritesNewest (shape x) s (takes_apart (shape x) s)) x ForRun
    × IsFullApart (WritesNewest (shape x) s (length s.runs)) x ForMerge

-- the root's number would pass 2^63 - 1, or a number of the frame of the run that goes somewhere would
abbrev pub IsStageWornApart : State → ExtentsState → Staging → Type 0
IsStageWornApart s x staging = IsRootWorn staging
    ⊎ IsRunWornApart (WritesNewest (shape x) s (takes_apart (shape x) s)) x ForRun staging
    ⊎ (IsFullApart (WritesNewest (shape x) s (takes_apart (shape x) s)) x ForRun
    × IsRunWornApart (WritesNewest (shape x) s (length s.runs)) x ForMerge staging)
