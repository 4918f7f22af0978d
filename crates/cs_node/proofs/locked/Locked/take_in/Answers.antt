use Rattle.cs_node.proofs.locked.Locked.take_in.Goals as goal

pub returns-clause-numbers : goal.returns-clause-numbers
returns-clause-numbers g c = rw (← c.self.view_is, ← c.purse.view_is) c.in_ok-add_all.ensures.ok.0
