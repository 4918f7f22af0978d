use Rattle.std.proofs.Common.{◌∙◌}
use Rattle.cs_node.proofs.Going.{behind_at}
use Rattle.cs_node.proofs.nodes.Node.abandon.Goals as goal

pub returns : goal.returns
returns g c = (c.behind-take.inside.engine.core, c.abandon.new.self.core, behind_at _ _ _ _ (c.behind-take.view_is ∙ c.deref_mut.ensures.value) c.take.ensures.behind, c.abandon.ensures)
