use Rattle.std.proofs.Common.{refl}
use Rattle.cs_node.proofs.Going.{behind_at, if_ok}
use Rattle.cs_node.proofs.nodes.Node.purse.Goals as goal

pub returns-clause-ok : goal.returns-clause-ok
returns-clause-ok g c = if_ok c.give.result (λ purse is. (c.deref_mut.result.now.engine.core, c.deref_mut.result.now.engine.core, behind_at _ _ _ _ c.deref_mut.ensures.value c.take.ensures.behind, (is.0, refl))) c.give.ensures.ok
