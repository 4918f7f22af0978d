use Rattle.cs_core.proofs.stores.Store.is_sweepable.Goals as goal

pub returns-clause-not : goal.returns-clause-not
returns-clause-not c = rw (← c.self.view_is) (λ may. c.may_begin.ensures.not may)
