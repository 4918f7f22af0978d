use Rattle.std.proofs.Common.{ℕ, ◌<◌, ◌≡◌, Some, slice_get}
use Rattle.cs_deps.specs.declared.spans.Span.{Span}
use Rattle.cs_deps.specs.Named.{IsInSpan}
use Rattle.cs_deps.specs.View.{pending_of}
use Rattle.cs_check.specs.Progress.{ArePlainsBefore}
use Rattle.cs_check.proofs.timings.Timing.spans_before.Given as goal

abbrev pub invariant-loop-span : goal.invariant-loop-span
invariant-loop-span l = (j : ℕ) (s : Span) → j < l.span-index → slice_get l.spans j ≡ Some s → (n : ℕ) → IsInSpan n s → ArePlainsBefore (pending_of l.self.view.now) l.self.firsts.now n l.i
