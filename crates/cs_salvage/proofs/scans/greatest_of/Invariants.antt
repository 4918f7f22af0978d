use Rattle.std.specs.List.{AllPairs}
use Rattle.cs_salvage.specs.Parts.{IsBefore}
use Rattle.cs_salvage.proofs.Outermost.{AreOutsideTo}
use Rattle.cs_salvage.proofs.Scanning.{AreCountedTo}
use Rattle.cs_salvage.proofs.scans.greatest_of.Given as goal

abbrev pub invariant-loop-k : goal.invariant-loop-k
invariant-loop-k l = record {
  counted : AreCountedTo l.parts l.k l.counted;
  outside : AllPairs IsBefore l.parts → AreOutsideTo l.parts l.k l.counted;
}
