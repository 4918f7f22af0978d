-- What a Stage does and when it is refused, where chunks and runs lie apart and where they don't.
use Rattle.std.specs.Prelude.{◌≡◌, ℕ, Bool, false, true}
use Rattle.cs_deps.specs.Staging.{Staging}
use Rattle.cs_deps.specs.State.{State as GraphState}
use Rattle.cs_extent.specs.State.{State as ExtentsState, shape}
use Rattle.law_machine.specs.Extents.{ForRun}
use Rattle.cs_index.specs.Apart.{IsFullApart, IsStageFullApart, IsStageWornApart, IsStagedApart, WritesNewest, takes_apart}
use Rattle.cs_index.specs.Merges.{deletions_go, stage_takes}
use Rattle.cs_index.specs.Staged.{IsFull, IsNewestStaged, IsStageWorn, WritesRun}
use Rattle.cs_index.specs.State.{State}

-- the index became runs, and the root over them was staged
abbrev pub IsStagedBy : (apart : Bool) → State → ExtentsState → GraphState → (v commands : ℕ) → State → ExtentsState → GraphState → Type 0
IsStagedBy false s x g v commands t y h = IsNewestStaged (stage_takes (shape x) s) s x g v commands t y h
IsStagedBy true s x g v commands t y h = IsStagedApart s x g v commands t y h

abbrev pub IsStaged : State → ExtentsState → GraphState → (v commands : ℕ) → State → ExtentsState → GraphState → Type 0
IsStaged s x g v commands t y h = IsStagedBy (shape x).apart s x g v commands t y h

-- no deletion goes
abbrev pub DeletionsStayBy : (apart : Bool) → State → ExtentsState → Type 0
DeletionsStayBy false s x = deletions_go (shape x) s (stage_takes (shape x) s) ≡ false
DeletionsStayBy true s x = (deletions_go (shape x) s (takes_apart (shape x) s) ≡ false)
    × (IsFullApart (WritesNewest (shape x) s (takes_apart (shape x) s)) x ForRun → ⊥)

abbrev pub DeletionsStay : State → ExtentsState → Type 0
DeletionsStay s x = DeletionsStayBy (shape x).apart s x

-- a run is to be written, and no extent takes its pages; where chunks and runs lie apart neither run goes anywhere
abbrev pub IsStageFullBy : (apart : Bool) → State → ExtentsState → Type 0
IsStageFullBy false s x = IsFull (WritesRun (shape x) s) x ForRun
IsStageFullBy true s x = IsStageFullApart s x

abbrev pub IsTooFullToStage : State → ExtentsState → Type 0
IsTooFullToStage s x = IsStageFullBy (shape x).apart s x

-- the root's number would pass 2^63 - 1, or a number of the frame of the run that is to be written would
abbrev pub IsStageWornBy : (apart : Bool) → State → ExtentsState → Staging → Type 0
IsStageWornBy false s x staging = IsStageWorn (WritesRun (shape x) s) x ForRun staging
IsStageWornBy true s x staging = IsStageWornApart s x staging

abbrev pub IsTooWornToStage : State → ExtentsState → Staging → Type 0
IsTooWornToStage s x staging = IsStageWornBy (shape x).apart s x staging
