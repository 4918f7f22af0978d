use Rattle.cs_node.proofs.nodes.Node.offer.Goals as goal

pub returns-in-Ok-clause-step : goal.returns-in-Ok-clause-step
returns-in-Ok-clause-step g c = rw c.shared-own.ensures at c.in-Ok.ensures.step

pub returns-in-Err-clause-step : goal.returns-in-Err-clause-step
returns-in-Err-clause-step g c = rw c.shared-own.ensures at c.in-Err.ensures.step
