use Rattle.std.proofs.Common.{ℕ, ◌<◌}
use Rattle.cs_deps.specs.View.{pending_of}
use Rattle.cs_check.specs.Progress.{IsNestedAt}
use Rattle.cs_check.proofs.nestings.is_nested.Given as goal

abbrev pub invariant-loop-k : goal.invariant-loop-k
invariant-loop-k l = (j : ℕ) → j < l.k → IsNestedAt (pending_of l.view) j
