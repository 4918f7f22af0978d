use Rattle.std.proofs.Common.{◌≡◌, ℕ, ◌<◌, List, ◌∷◌, slice_index}
use Rattle.cs_check.proofs.names.element_from.Given as goal

abbrev pub invariant-loop-family : goal.invariant-loop-family
invariant-loop-family l = (f : ℕ) → f < l.family → (rest : List ℕ) → l.name ≡ slice_index l.letters f ∷ rest → ⊥
