use Rattle.test_store.proofs.indexes.merge.Goals as goal

pub invariant_of-store : goal.invariant_of-store
invariant_of-store g c = record { staged = c.stage_merged.ensures.ready.resets }
