use Rattle.std.proofs.Common.{◌-◌}
use Rattle.std.specs.Prelude.{slice_index}
use Rattle.cs_core.proofs.RootSteps.{LetsGoSoFar}
use Rattle.cs_core.proofs.rounds.let_go.Given as goal

abbrev pub invariant-loop : goal.invariant-loop
invariant-loop l = LetsGoSoFar (slice_index l.graph.staging.pending.persistent 1) l.fn.roots.items l.roots.items (l.end - l.counter)
