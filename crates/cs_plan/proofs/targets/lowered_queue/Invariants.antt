use Rattle.cs_plan.specs.Targets.{AreLowered}
use Rattle.cs_plan.proofs.targets.lowered_queue.Given as goal

abbrev pub invariant-loop-k : goal.invariant-loop-k
invariant-loop-k l = AreLowered l.graph.staging.pending l.wanted l.height l.queue l.k l.round.items
