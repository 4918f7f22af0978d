use Rattle.std.proofs.Common.{◌∙◌}
use Rattle.cs_node.proofs.Going.{behind_at}
use Rattle.cs_node.proofs.nodes.Node.delete_with.Goals as goal

pub returns-clause-step : goal.returns-clause-step
returns-clause-step g c = (c.behind-take.inside.engine.core, c.delete.new.self.core, behind_at _ _ _ _ (c.behind-take.view_is ∙ c.deref_mut.ensures.value) c.take.ensures.behind, c.delete.ensures.step)
