use Rattle.std.proofs.Common.{◌≡◌, ◌≤◌, ◌+◌, ◌++◌, All, length, map, vec_len}
use Rattle.std.specs.Prelude.{vec_capacity}
use Rattle.std.specs.Vec.Iter.{into_iter_items, into_iter_len}
use Rattle.cs_node.specs.declared.jobs.Slot.TheVariants.{Gave}
use Rattle.cs_node.specs.Jobs.{HasGiven}
use Rattle.cs_node.proofs.jobs.given.Given as goal

-- what was given so far, and at each other slot there is something, for which there is room
abbrev pub invariant-loop-slot : goal.invariant-loop-slot
invariant-loop-slot g l =
    (l.fn.slots.items ≡ map Gave l.outs.items ++ into_iter_items l.slot-iterator)
    × (into_iter_len l.slot-iterator ≡ length (into_iter_items l.slot-iterator))
    × All HasGiven (into_iter_items l.slot-iterator)
    × (vec_len l.outs + into_iter_len l.slot-iterator ≤ vec_capacity l.outs)
