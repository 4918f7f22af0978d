use Rattle.std.proofs.Common.{ℕ, ◌<◌, ◌≡◌, Some, slice_get, List}
use Rattle.std.specs.Prelude.{All}
use Rattle.cs_deps.specs.declared.elements.Element.{Element}
use Rattle.cs_deps.specs.Pending.{Waits}
use Rattle.cs_deps.specs.View.{pending_of}
use Rattle.cs_check.specs.Listing.{IsOnce}
use Rattle.cs_check.specs.Progress.{elements_of}
use Rattle.cs_check.proofs.plans.are_rounds.Given as goal

abbrev pub invariant-loop-i : goal.invariant-loop-i
invariant-loop-i l = (k : ℕ) (xs : List Element) → k < l.i → slice_get (elements_of l.rounds) k ≡ Some xs → All (Waits (pending_of l.view)) xs × IsOnce xs
