use Rattle.std.proofs.Common.{◌∙◌}
use Rattle.cs_node.proofs.Going.{behind_at}
use Rattle.cs_node.proofs.reclaimers.Reclaimer.turn.Goals as goal

pub returns : goal.returns
returns g c = (c.behind-take.inside.engine.core, c.sweep.new.self.core, behind_at _ _ _ _ (c.behind-take.view_is ∙ c.deref_mut.ensures.value) c.take.ensures.behind, c.sweep.ensures.turn)
