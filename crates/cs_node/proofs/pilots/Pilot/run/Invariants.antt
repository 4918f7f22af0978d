use Rattle.std.proofs.Common.{◌≡◌}
use Rattle.cs_node.proofs.pilots.Pilot.run.Given as goal

-- its seat has the view that it had
abbrev pub invariant-loop : goal.invariant-loop
invariant-loop g l = (goal.iterator-loop g).can_next l.iterator' × (goal.iterator-loop g).is_finite l.iterator' × (l.self ≡ l.fn.self)
