use Rattle.std.proofs.Common.{refl}
use Rattle.cs_node.proofs.Going.{behind_at, if_some}
use Rattle.cs_node.proofs.nodes.Node.pilot.Goals as goal

pub returns : goal.returns
returns g c = if_some _ c.hire.result (λ pilot is. (c.deref_mut.result.now.engine.core, c.deref_mut.result.now.engine.core, behind_at _ _ _ _ c.deref_mut.ensures.value c.take.ensures.behind, (is.1, refl))) c.hire.ensures
