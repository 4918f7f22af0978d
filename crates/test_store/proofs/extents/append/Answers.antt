use Rattle.test_store.proofs.extents.append.Goals as goal

pub invariant_of-store : goal.invariant_of-store
invariant_of-store g c = record { staged = c.append.ensures.ready.resets }
