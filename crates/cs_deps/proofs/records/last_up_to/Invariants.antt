use Rattle.std.specs.Prelude.{ℕ, ◌≤◌}
use Rattle.cs_deps.specs.Newest.{IsPut}
use Rattle.cs_deps.proofs.records.last_up_to.Given as goal

abbrev pub decreases-loop-number : goal.decreases-loop-number
decreases-loop-number l = l.number

abbrev pub invariant-loop-number : goal.invariant-loop-number
invariant-loop-number l = record {
  none : (m : ℕ) → IsPut l.records l.page m → m ≤ l.last → m ≤ l.number;
}
