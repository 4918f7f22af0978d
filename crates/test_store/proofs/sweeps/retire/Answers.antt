use Rattle.test_store.proofs.sweeps.retire.Goals as goal

pub invariant_of-store : goal.invariant_of-store
invariant_of-store g c = record { staged = c.retire.ensures.ready.resets }
