-- What was read of a store that can't be opened as usual.
use Rattle.std.specs.Prelude.{◌+◌, ◌*◌, ◌≤◌, ℕ, Bool, List, Option}
use Rattle.cs_deps.specs.State.{NoneOn, State as GraphState}
use Rattle.cs_extent.specs.State.{State as ExtentsState, shape}
use Rattle.cs_frame.specs.declared.locators.Locator.{Locator}
use Rattle.cs_index.specs.State.{State as IndexState}
use Rattle.cs_salvage.specs.declared.rescued_runs.DamagedRun.{DamagedRun}

-- The extents, then version, commands and runs of the root, and whether a section records a later root. Then the index
-- of the runs that were read, and the first run that couldn't be.
pub record Found : Type 0 where
  pub extents : ExtentsState
  pub root : ℕ
  pub commands : ℕ
  pub places : List Locator
  pub lost : Bool
  pub index : IndexState
  pub damaged : Option DamagedRun

-- a store over a disk, read for what can be got of it
pub record View (D : Type 0) : Type 0 where
  pub disk : D
  pub found : Found

-- nothing waits to be written
abbrev pub NothingWaits : GraphState → Type 0
NothingWaits g = (p : ℕ) → NoneOn g p

-- so many pages are enough for root and extents
abbrev pub IsRoomFor : Found → (count : ℕ) → Type 0
IsRoomFor f count = 2 + (shape f.extents).extents * (shape f.extents).pages ≤ count
