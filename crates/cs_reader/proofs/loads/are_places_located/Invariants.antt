use Rattle.std.proofs.Common.{take}
use Rattle.std.specs.List.{AllByRecursion}
use Rattle.cs_reader.specs.ImageReads.{IsLocated}
use Rattle.cs_reader.proofs.loads.are_places_located.Given as goal

abbrev pub invariant-loop-k : goal.invariant-loop-k
invariant-loop-k l = AllByRecursion (IsLocated l.extents) (take l.k l.places)
