use Rattle.cs_core.proofs.Noted.{frontier_within}
use Rattle.cs_core.proofs.stores.Store.frontier.Goals as goal

pub returns-clause-within : goal.returns-clause-within
returns-clause-within c = rw (← c.self.view_is) (frontier_within _ _ _ _ _ c.self.invariant.noted)
