use Rattle.std.proofs.Common.{ℕ, ◌+◌, ◌<◌}
use Rattle.cs_deps.specs.View.{pending_of}
use Rattle.cs_check.specs.Progress.{ArePlainsBefore}
use Rattle.cs_check.proofs.timings.Timing.span_before.Given as goal

abbrev pub invariant-loop-step : goal.invariant-loop-step
invariant-loop-step l = (m : ℕ) → m < l.step → ArePlainsBefore (pending_of l.self.view.now) l.self.firsts.now (l.span.first + m) l.i
