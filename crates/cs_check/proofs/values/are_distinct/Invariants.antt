use Rattle.std.proofs.Common.{ℕ, ◌<◌, ◌≡◌, slice_index}
use Rattle.cs_check.proofs.values.are_distinct.Given as goal

abbrev pub invariant-loop-j : goal.invariant-loop-j
invariant-loop-j l = (j i : ℕ) → j < l.j → i < j → slice_index l.letters i ≡ slice_index l.letters j → ⊥
