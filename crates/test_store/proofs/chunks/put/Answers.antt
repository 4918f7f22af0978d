use Rattle.test_store.proofs.chunks.put.Goals as goal

pub invariant_of-store : goal.invariant_of-store
invariant_of-store g c = record { staged = c.put_chunks.ensures.ready.resets }
