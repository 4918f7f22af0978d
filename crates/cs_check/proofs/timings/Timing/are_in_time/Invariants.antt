use Rattle.std.proofs.Common.{ℕ, ◌<◌, ◌≡◌, Some, slice_get, List}
use Rattle.std.specs.Prelude.{All}
use Rattle.cs_deps.specs.declared.elements.Element.{Element}
use Rattle.cs_deps.specs.View.{pending_of}
use Rattle.cs_check.specs.Progress.{NeedsBefore, elements_of}
use Rattle.cs_check.proofs.timings.Timing.are_in_time.Given as goal

abbrev pub invariant-loop-i : goal.invariant-loop-i
invariant-loop-i l = (k : ℕ) (xs : List Element) → k < l.i → slice_get (elements_of l.self.rounds.now) k ≡ Some xs → All (λ x. NeedsBefore (pending_of l.self.view.now) l.self.firsts.now x k) xs
