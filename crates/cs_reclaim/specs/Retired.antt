-- What retiring an extent does, and why it is refused.
use Rattle.std.specs.Prelude.{◌≡◌, ◌⊎◌, ℕ, false}
use Rattle.cs_deps.specs.Staging.{Staging}
use Rattle.cs_deps.specs.State.{State as GraphState}
use Rattle.cs_extent.specs.State.{State as ExtentsState, extents_of, shape}
use Rattle.cs_index.specs.Staged.{IsFull, IsMergeStaged, IsStageWorn, WritesMerged}
use Rattle.cs_index.specs.State.{State}
use Rattle.law_machine.specs.Extents.{ForMove, emptied, marked}

-- Extent e was retired: one run of all that is live and the root over it were staged, and then e was emptied under that
-- root's version, and is no longer being swept. The device's shape stays.
abbrev pub IsRetired : State → ExtentsState → GraphState → (e v commands : ℕ) → State → ExtentsState → GraphState → Type 0
IsRetired s x g e v commands t y h =
    (mid : ExtentsState) × IsMergeStaged s x g ForMove v commands t mid h × (extents_of y ≡ marked (emptied (extents_of mid) e v) e false)
    × (shape y ≡ shape x)

-- no extent takes the run of all that is live
abbrev pub IsRetireFull : State → ExtentsState → Type 0
IsRetireFull s x = IsFull (WritesMerged s) x ForMove

-- a number would pass its greatest: one of those that are staged, or the extent's generation
abbrev pub IsRetireWorn : State → ExtentsState → Staging → (e : ℕ) → Type 0
IsRetireWorn s x g e = IsStageWorn (WritesMerged s) x ForMove g ⊎ ((extents_of x).generation e ≡ (shape x).greatest_generation)
