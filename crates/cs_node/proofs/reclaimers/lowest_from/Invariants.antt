use Rattle.std.proofs.Common.{ℕ, ◌<◌, ◌≤◌}
use Rattle.cs_core.specs.Sweepable.{IsUnsweepable}
use Rattle.cs_node.proofs.reclaimers.lowest_from.Given as goal

abbrev pub invariant-loop-extent : goal.invariant-loop-extent
invariant-loop-extent g l = (l.from ≤ l.extent) × ((k : ℕ) → l.from ≤ k → k < l.extent → IsUnsweepable l.core.store k)
