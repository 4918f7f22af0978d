use Rattle.cs_plan.specs.Queues.{IsFollowed, backwards}
use Rattle.cs_plan.proofs.chains.follow.Given as goal

abbrev pub invariant-loop : goal.invariant-loop
invariant-loop l = IsFollowed l.graph.staging.pending l.fn.end l.height l.counter l.element (backwards l.made.items)
