use Rattle.std.proofs.Common.{◌≡◌, ◌+◌, get_or}
use Rattle.cs_extent.specs.Frames.{greatest}
use Rattle.cs_extent.proofs.extents.greatest_of.Given as goal

abbrev pub invariant-loop-i : goal.invariant-loop-i
invariant-loop-i l = l.most ≡ greatest (λ i. get_or l.numbers (l.start + i) 0) l.i
