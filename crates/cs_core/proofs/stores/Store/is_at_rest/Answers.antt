use Rattle.cs_core.proofs.Settling.{none_there}
use Rattle.cs_core.proofs.stores.Store.is_at_rest.Goals as goal

pub returns-then-not-has_waiting : goal.returns-then-not-has_waiting
returns-then-not-has_waiting c = rw (← c.self.view_is) (
  λ empty. (none_there c.has_waiting.result c.self.inside.graph.staging.pending.waiting c.has_waiting.ensures c.if-not-has_waiting.true, c.in-None.ensures, c.is_table_empty.ensures.0 empty),
  λ rest. c.is_table_empty.ensures.1 rest.2,
)
