use Rattle.cs_store.proofs.stores.Store.scrub.Goals as goal

pub returns-clause-named : goal.returns-clause-named
returns-clause-named g c = rw (← c.self.view_is) c.scrub.ensures.named
