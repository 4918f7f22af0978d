use Rattle.std.proofs.Common.{◌∙◌}
use Rattle.cs_node.proofs.Going.{behind_at}
use Rattle.cs_node.proofs.streams.Stream.turn.Goals as goal

pub returns-clause-turn : goal.returns-clause-turn
returns-clause-turn g c = (c.behind-take.inside.engine.core, c.stream.new.self.core, behind_at _ _ _ _ (c.behind-take.view_is ∙ c.deref_mut.ensures.value) c.take.ensures.behind, c.stream.ensures.turn)
