use Rattle.std.proofs.Common.{◌≡◌, take}
use Rattle.cs_index.specs.Copies.{newest_copies}
use Rattle.law_machine.specs.Apart.{any_copy_on}
use Rattle.cs_reclaim.proofs.roots.any_copy_on.Given as goal

abbrev pub invariant-loop-k : goal.invariant-loop-k
invariant-loop-k l = l.found ≡ any_copy_on (newest_copies (take l.k l.copies)) l.extent
