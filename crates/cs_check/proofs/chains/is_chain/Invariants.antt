use Rattle.std.proofs.Common.{ℕ, ◌<◌}
use Rattle.cs_deps.specs.View.{pending_of}
use Rattle.cs_check.specs.Progress.{IsLink}
use Rattle.cs_check.proofs.chains.is_chain.Given as goal

abbrev pub invariant-loop-i : goal.invariant-loop-i
invariant-loop-i l = (j : ℕ) → j < l.i → IsLink (pending_of l.view) l.target l.chain j
