use Rattle.std.proofs.Common.{◌≡◌, drop}
use Rattle.cs_plan.specs.Queues.{backwards}
use Rattle.cs_plan.proofs.chains.turned.Given as goal

abbrev pub invariant-loop-k : goal.invariant-loop-k
invariant-loop-k l = l.turned.items ≡ backwards (drop l.k l.elements)
