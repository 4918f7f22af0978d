use Rattle.cs_node.proofs.judges.are_acks_within.Goals as goal

pub returns-then-is_within : goal.returns-then-is_within
returns-then-is_within g c = ((λ t. (c.is_within.ensures.0 c.if-is_within.true, c.have_acks_within.ensures.0 t)), (λ both. c.have_acks_within.ensures.1 both.1))
