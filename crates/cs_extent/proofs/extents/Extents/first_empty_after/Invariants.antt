use Rattle.std.proofs.Common.{ℕ, ◌<◌}
use Rattle.cs_extent.specs.Planned.{after_planned}
use Rattle.cs_extent.specs.State.{extents_of}
use Rattle.cs_extent.proofs.extents.Extents.first_empty_after.Given as goal

abbrev pub invariant-loop-e : goal.invariant-loop-e
invariant-loop-e l = (d : ℕ) → d < l.e → 0 < (after_planned (extents_of l.self) l.planned).pointer d
