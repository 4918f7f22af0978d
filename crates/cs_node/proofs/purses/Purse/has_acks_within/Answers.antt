use Rattle.cs_node.proofs.purses.Purse.has_acks_within.Goals as goal

pub returns : goal.returns
returns g c = rw (← c.self.view_is) c.is_within.ensures
