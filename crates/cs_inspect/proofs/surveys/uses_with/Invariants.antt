use Rattle.cs_extent.specs.State.{extents_of}
use Rattle.cs_inspect.specs.Uses.{AreUses}
use Rattle.cs_inspect.proofs.surveys.uses_with.Given as goal

abbrev pub invariant-loop-extent : goal.invariant-loop-extent
invariant-loop-extent l = AreUses l.extent (extents_of l.extents) l.live l.unreadable l.uses.items
