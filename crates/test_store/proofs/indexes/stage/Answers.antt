use Rattle.std.proofs.Common.{◌∙◌, sym, true≢false}
use Rattle.test_store.proofs.indexes.stage.Goals as goal

pub stage-requires-clause-runs : goal.stage-requires-clause-runs
stage-requires-clause-runs g c = λ rule. absurd (true≢false (sym rule ∙ c.assert_indexed.ensures.together))

pub invariant_of-store : goal.invariant_of-store
invariant_of-store g c = record { staged = c.stage.ensures.ready.resets }
