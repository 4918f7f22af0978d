use Rattle.cs_core.proofs.cores.Core.index.Goals as goal

pub returns-clause-places : goal.returns-clause-places
returns-clause-places g c = rw (← c.self.view_is) c.index.ensures.places
