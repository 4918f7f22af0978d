use Rattle.std.proofs.Common.{ℕ, ◌<◌, ◌≡◌, slice_index}
use Rattle.cs_check.proofs.values.stands_before.Given as goal

abbrev pub invariant-loop-i : goal.invariant-loop-i
invariant-loop-i l = (j : ℕ) → j < l.i → slice_index l.letters j ≡ l.letter → ⊥
