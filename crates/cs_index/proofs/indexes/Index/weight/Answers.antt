use Rattle.std.proofs.Common.{arith}
use Rattle.cs_index.proofs.indexes.Index.weight.Goals as goal

pub returns-clause-limit : goal.returns-clause-limit
returns-clause-limit c = rw (← c.self.view_is) (omega (arith, c.self.invariant.weighs, c.self.invariant.whole.weight_fits))
