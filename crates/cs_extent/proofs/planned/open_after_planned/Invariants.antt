use Rattle.std.proofs.Common.{◌≡◌, take}
use Rattle.cs_extent.specs.Planned.{open_after_planned}
use Rattle.cs_extent.proofs.planned.open_after_planned.Given as goal

abbrev pub invariant-loop-it : goal.invariant-loop-it
invariant-loop-it l = l.open_extent ≡ open_after_planned l.fn.before (take l.it-index l.planned)
