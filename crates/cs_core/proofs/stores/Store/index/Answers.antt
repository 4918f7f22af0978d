use Rattle.cs_core.proofs.stores.Store.index.Goals as goal

pub returns-clause-places : goal.returns-clause-places
returns-clause-places c = rw (← c.self.view_is) c.self.invariant.places
