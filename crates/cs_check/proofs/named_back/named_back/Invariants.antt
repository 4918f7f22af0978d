use Rattle.std.proofs.Common.{◌≡◌, ℕ, ◌-◌, ◌≤◌, length, get_or, true, false}
use Rattle.cs_deps.specs.declared.elements.Element.{Element}
use Rattle.cs_deps.specs.Named.{Named}
use Rattle.cs_deps.specs.Pending.{WaitsAt}
use Rattle.cs_deps.specs.View.{pending_of}
use Rattle.cs_check.specs.Progress.{AreFloors, NamesFrom}
use Rattle.cs_check.proofs.named_back.named_back.Given as goal

abbrev pub invariant-loop-after : goal.invariant-loop-after
invariant-loop-after l = record {
  floors : AreFloors (pending_of l.view) (length l.view.waiting.items - l.after) l.floor l.floors.items;
  count : length l.back.items ≡ length l.view.waiting.items;
  back : (k : ℕ) (x : Element) (d : Named) → length l.view.waiting.items - l.after ≤ k → WaitsAt (pending_of l.view) k x d → get_or l.back.items k false ≡ true → NamesFrom (pending_of l.view) d k → ⊥;
}
