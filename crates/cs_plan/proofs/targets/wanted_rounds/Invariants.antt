use Rattle.std.proofs.Common.{◌≡◌, length}
use Rattle.cs_plan.specs.Targets.{AreLoweredQueues}
use Rattle.cs_plan.proofs.targets.wanted_rounds.Given as goal

abbrev pub invariant-loop-i : goal.invariant-loop-i
invariant-loop-i l = record {
  count : length l.rounds.items ≡ l.i;
  each : AreLoweredQueues l.graph.staging.pending l.wanted l.rounds.items;
}
