use Rattle.cs_store.proofs.stores.Store.put.Goals as goal

pub returns-clause-done : goal.returns-clause-done
returns-clause-done g c = rw (← c.self.view_is) c.put_within.ensures.done

pub returns-clause-refused : goal.returns-clause-refused
returns-clause-refused g c = rw (← c.self.view_is) c.put_within.ensures.refused

pub returns-clause-map : goal.returns-clause-map
returns-clause-map g c = rw (← c.self.view_is) c.put_within.ensures.map
