use Rattle.cs_node.proofs.Behind.{is_behind}
use Rattle.cs_node.proofs.locked.Engine.core.Goals as goal

pub returns-clause-behind : goal.returns-clause-behind
returns-clause-behind g c = rw (← c.self.view_is) (is_behind _ _ _ c.self.invariant.0 c.progress.ensures.legal c.progress.ensures.left)
