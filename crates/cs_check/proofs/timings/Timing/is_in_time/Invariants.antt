use Rattle.std.proofs.Common.{ℕ, ◌<◌, ◌≡◌, Some, slice_get}
use Rattle.cs_deps.specs.declared.elements.Element.{Element}
use Rattle.cs_deps.specs.View.{pending_of}
use Rattle.cs_check.specs.Progress.{NeedsBefore}
use Rattle.cs_check.proofs.timings.Timing.is_in_time.Given as goal

abbrev pub invariant-loop-member : goal.invariant-loop-member
invariant-loop-member l = (k : ℕ) (x : Element) → k < l.member-index → slice_get l.round k ≡ Some x → NeedsBefore (pending_of l.self.view.now) l.self.firsts.now x l.i
