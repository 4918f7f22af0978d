use Rattle.std.proofs.Common.{take}
use Rattle.std.specs.List.{AllByRecursion}
use Rattle.cs_reader.specs.ImageReads.{IsLocated}
use Rattle.cs_reader.proofs.loads.are_entries_located.Given as goal

abbrev pub invariant-loop-k : goal.invariant-loop-k
invariant-loop-k l = AllByRecursion (λ entry. AllByRecursion (IsLocated l.extents) entry.1.items) (take l.k l.entries)
