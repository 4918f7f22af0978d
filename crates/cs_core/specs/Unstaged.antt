-- Whether there is something to stage a root for.
use Rattle.std.specs.Prelude.{◌≡◌, ◌≢◌, ◌⊎◌, ◌&&◌, Bool, false, true, []}
use Rattle.cs_extent.specs.State.{extents_of, shape}
use Rattle.law_refinement.specs.cs_reclaim.Rooted.{is_left_over}
use Rattle.cs_core.specs.Stored.{Stored}

-- copies are noted still of a sweep that was given up: none are where chunks and runs may lie on one extent
abbrev pub are_left_over : Stored → Bool
are_left_over s = (shape s.extents).apart && is_left_over (shape s.extents) (extents_of s.extents) s.copies

-- a Stage stages a root: the table isn't empty, or copies are left over
abbrev pub MayStage : Stored → Type 0
MayStage s = (s.index.table ≢ []) ⊎ (are_left_over s ≡ true)

-- a Stage stages nothing: the table is empty, and no copies are left over
abbrev pub NothingToStage : Stored → Type 0
NothingToStage s = (s.index.table ≡ []) × (are_left_over s ≡ false)
