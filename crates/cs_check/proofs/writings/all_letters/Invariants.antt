use Rattle.std.proofs.Common.{ℕ, ◌<◌, ◌≡◌, Some, slice_get}
use Rattle.cs_check.specs.Names.{IsLetter}
use Rattle.cs_check.proofs.writings.all_letters.Given as goal

abbrev pub invariant-loop-i : goal.invariant-loop-i
invariant-loop-i l = (k x : ℕ) → k < l.i → slice_get l.letters k ≡ Some x → IsLetter x
