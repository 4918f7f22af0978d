use Rattle.std.proofs.Common.{ℕ, ◌<◌, ◌≡◌, Some, slice_get}
use Rattle.cs_deps.specs.declared.elements.Element.{Element}
use Rattle.cs_check.specs.Progress.{StandsBelow}
use Rattle.cs_check.proofs.orders.is_once_by_pairs.Given as goal

abbrev pub invariant-loop-j : goal.invariant-loop-j
invariant-loop-j l = (k : ℕ) (x : Element) → k < l.j → slice_get l.elements k ≡ Some x → StandsBelow l.elements k x → ⊥
