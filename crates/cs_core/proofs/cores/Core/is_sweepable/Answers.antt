use Rattle.cs_core.proofs.cores.Core.is_sweepable.Goals as goal

pub returns-clause-not : goal.returns-clause-not
returns-clause-not g c = rw (← c.self.view_is) c.is_sweepable.ensures.not
