use Rattle.std.proofs.Common.{◌≤◌}
use Rattle.cs_node.proofs.nodes.Node.sync.Given as goal

-- the pilot's seat saw no less than before
abbrev pub invariant-loop : goal.invariant-loop
invariant-loop g l = (goal.iterator-loop g).can_next l.iterator' × (goal.iterator-loop g).is_finite l.iterator' × (l.fn.pilot ≤ l.pilot)
