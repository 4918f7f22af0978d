use Rattle.std.proofs.Common.{ℕ, ◌<◌, ◌≡◌, Some, slice_get}
use Rattle.std.specs.Prelude.{Contains}
use Rattle.cs_deps.specs.declared.elements.Element.{Element}
use Rattle.cs_check.specs.Documents.{elements_in}
use Rattle.cs_check.proofs.readings.all_listed.Given as goal

abbrev pub invariant-loop-element : goal.invariant-loop-element
invariant-loop-element l = (k : ℕ) (x : Element) → k < l.element-index → slice_get l.elements k ≡ Some x → Contains (elements_in l.waiting) x
