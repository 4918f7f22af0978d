use Rattle.std.proofs.Common.{ℕ, ◌<◌, ◌≤◌}
use Rattle.cs_extent.specs.State.{extents_of}
use Rattle.cs_extent.proofs.extents.Extents.empty_from.Given as goal

abbrev pub invariant-loop-e : goal.invariant-loop-e
invariant-loop-e l = (d : ℕ) → l.start ≤ d → d < l.e → 0 < (extents_of l.self).pointer d
