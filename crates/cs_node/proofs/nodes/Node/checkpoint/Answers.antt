use Rattle.std.proofs.Common.{◌∙◌}
use Rattle.cs_node.proofs.Going.{behind_at}
use Rattle.cs_node.proofs.nodes.Node.checkpoint.Goals as goal

pub returns-clause-replaced : goal.returns-clause-replaced
returns-clause-replaced g c = (c.behind-take.inside.engine.core, c.checkpoint.new.self.core, behind_at _ _ _ _ (c.behind-take.view_is ∙ c.deref_mut.ensures.value) c.take.ensures.behind, c.checkpoint.ensures.done)
