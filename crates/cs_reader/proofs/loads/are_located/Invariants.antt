use Rattle.std.proofs.Common.{take}
use Rattle.cs_reader.specs.ImageReads.{AreLocated}
use Rattle.cs_reader.proofs.loads.are_located.Given as goal

abbrev pub invariant-loop-k : goal.invariant-loop-k
invariant-loop-k l = AreLocated l.extents (take l.k l.runs)
