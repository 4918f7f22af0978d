use Rattle.std.proofs.Common.{◌≡◌, take}
use Rattle.cs_extent.specs.Planned.{pointers_after}
use Rattle.cs_extent.specs.State.{extents_of}
use Rattle.cs_extent.proofs.extents.Extents.pointer_after.Given as goal

abbrev pub invariant-loop-it : goal.invariant-loop-it
invariant-loop-it l = l.pointer ≡ pointers_after (extents_of l.self).pointer (take l.it-index l.planned) l.extent
