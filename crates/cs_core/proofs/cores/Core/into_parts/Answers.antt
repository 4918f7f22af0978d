use Rattle.cs_core.proofs.cores.Core.into_parts.Goals as goal

pub returns-clause-legal : goal.returns-clause-legal
returns-clause-legal g c = rw (← c.self.view_is) (λ honest. c.self.invariant.core.legal honest)
