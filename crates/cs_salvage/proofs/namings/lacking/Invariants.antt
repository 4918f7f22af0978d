use Rattle.cs_salvage.proofs.Countings.{AreTested}
use Rattle.cs_salvage.proofs.namings.lacking.Given as goal

abbrev pub invariant-loop-k : goal.invariant-loop-k
invariant-loop-k l = AreTested l.shards l.ids l.k l.count
