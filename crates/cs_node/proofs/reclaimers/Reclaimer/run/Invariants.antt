use Rattle.std.proofs.Common.{◌≤◌, ℕ}
use Rattle.cs_node.specs.Sweeps.{IsAfterTurns}
use Rattle.cs_node.proofs.reclaimers.Reclaimer.run.Given as goal

-- it began no more sweeps than it might, and it took turns alone
abbrev pub invariant-loop : goal.invariant-loop
invariant-loop g l = (goal.iterator-loop g).can_next l.iterator' × (goal.iterator-loop g).is_finite l.iterator' × (l.self.left ≤ l.fn.self.left) × ((n : ℕ) × IsAfterTurns g.D.PageDisk g.K.Naming.start n l.fn.self l.self)
