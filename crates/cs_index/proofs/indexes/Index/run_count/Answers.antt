use Rattle.std.proofs.Common.{arith}
use Rattle.cs_index.proofs.Whole.{length-newest}
use Rattle.cs_index.proofs.indexes.Index.run_count.Goals as goal

pub returns-clause-count : goal.returns-clause-count
returns-clause-count c = rw (← c.self.view_is) (omega (arith, c.len.ensures, c.self.inside.runs.ok.0, length-newest c.self.inside.runs.items))

pub returns-clause-few : goal.returns-clause-few
returns-clause-few c = omega (arith, c.len.ensures, c.self.inside.runs.ok.0, length-newest c.self.inside.runs.items, c.self.invariant.whole.few)
