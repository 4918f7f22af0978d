use Rattle.std.proofs.Common.{◌≡◌, false}
use Rattle.cs_extent.specs.State.{extents_of}
use Rattle.law_machine.specs.Apart.{any_below}
use Rattle.cs_reclaim.proofs.roots.is_any_swept.Given as goal

abbrev pub invariant-loop-e : goal.invariant-loop-e
invariant-loop-e l = any_below (extents_of l.extents).swept l.e ≡ false
