use Rattle.std.proofs.Common.{ℕ, ◌<◌, ◌≡◌, Some, slice_get}
use Rattle.cs_deps.specs.declared.elements.Element.{Element}
use Rattle.cs_deps.specs.Pending.{Waits}
use Rattle.cs_deps.specs.View.{pending_of}
use Rattle.cs_check.proofs.plans.all_wait.Given as goal

abbrev pub invariant-loop-element : goal.invariant-loop-element
invariant-loop-element l = (k : ℕ) (x : Element) → k < l.element-index → slice_get l.elements k ≡ Some x → Waits (pending_of l.view) x
