use Rattle.std.proofs.Common.{ℕ, ◌<◌, slice_index}
use Rattle.cs_deps.specs.View.{pending_of}
use Rattle.cs_check.specs.Progress.{AreVersionsBefore}
use Rattle.cs_check.proofs.timings.Timing.versions_before.Given as goal

abbrev pub invariant-loop-family : goal.invariant-loop-family
invariant-loop-family l = (f : ℕ) → f < l.family → AreVersionsBefore (pending_of l.self.view.now) l.self.firsts.now f (slice_index l.needs.least f) l.i
