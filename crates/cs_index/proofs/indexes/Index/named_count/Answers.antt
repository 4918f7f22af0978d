use Rattle.std.proofs.Common.{arith}
use Rattle.cs_index.specs.contracts.indexes.Index.{the_view}
use Rattle.cs_index.proofs.Weights.{names_few}
use Rattle.cs_index.proofs.indexes.Index.named_count.Goals as goal

pub returns-clause-limit : goal.returns-clause-limit
returns-clause-limit c = rw (← c.self.view_is) (omega (arith, c.self.invariant.count, names_few (the_view c.self.inside) c.self.invariant.whole))
