use Rattle.cs_core.proofs.stores.Store.read_frame.Goals as goal

pub returns-clause-payload : goal.returns-clause-payload
returns-clause-payload g c = rw (← c.self.view_is) c.read_frame.ensures.payload

pub returns-clause-read : goal.returns-clause-read
returns-clause-read g c = rw (← c.self.view_is) c.read_frame.ensures.read

pub returns-clause-fault : goal.returns-clause-fault
returns-clause-fault g c = rw (← c.self.view_is) c.read_frame.ensures.fault

pub returns-clause-meant : goal.returns-clause-meant
returns-clause-meant g c = rw (← c.self.view_is) c.read_frame.ensures.meant
