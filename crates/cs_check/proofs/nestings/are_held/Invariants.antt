use Rattle.std.proofs.Common.{ℕ, ◌<◌, ◌≡◌, Some, slice_get}
use Rattle.cs_deps.specs.declared.spans.Span.{Span}
use Rattle.cs_deps.specs.Named.{IsInSpan, IsInSpans}
use Rattle.cs_check.proofs.nestings.are_held.Given as goal

abbrev pub invariant-loop-i : goal.invariant-loop-i
invariant-loop-i l = (j : ℕ) (s : Span) → j < l.i → slice_get l.first j ≡ Some s → (n : ℕ) → IsInSpan n s → IsInSpans l.second n
