use Rattle.std.proofs.Common.{◌≡◌, ℕ, ◌<◌, ◌≤◌, Some, slice_get}
use Rattle.cs_deps.specs.declared.elements.Element.{Element}
use Rattle.cs_deps.specs.Named.{Named, Names}
use Rattle.cs_check.proofs.listings.names_from.Given as goal

abbrev pub invariant-loop-j : goal.invariant-loop-j
invariant-loop-j l = (i : ℕ) (x : Element) (e : Named) → l.k ≤ i → i < l.j → slice_get l.view.waiting.items i ≡ Some (x, e) → Names l.needs x → ⊥
