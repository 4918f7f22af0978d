use Rattle.std.proofs.Common.{◌≡◌, ℕ, ◌<◌, Some, slice_get}
use Rattle.cs_deps.specs.Named.{Named}
use Rattle.cs_deps.proofs.records.place_of.Given as goal

abbrev pub invariant-loop-k : goal.invariant-loop-k
invariant-loop-k l = (j : ℕ) (d : Named) → j < l.k → slice_get l.entries j ≡ Some (l.element, d) → ⊥
