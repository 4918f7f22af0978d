use Rattle.std.proofs.Common.{◌≡◌, ◌≤◌, ◌+◌, ◌++◌, length, map, vec_len}
use Rattle.std.specs.Prelude.{vec_capacity}
use Rattle.std.specs.Vec.Iter.{into_iter_items, into_iter_len}
use Rattle.cs_node.specs.declared.jobs.Slot.TheVariants.{Job}
use Rattle.cs_node.proofs.jobs.waiting.Given as goal

-- the jobs so far have slots, and there is room for the others
abbrev pub invariant-loop-job : goal.invariant-loop-job
invariant-loop-job g l =
    (map Job l.fn.jobs.items ≡ l.slots.items ++ map Job (into_iter_items l.job-iterator))
    × (into_iter_len l.job-iterator ≡ length (into_iter_items l.job-iterator))
    × (vec_len l.slots + into_iter_len l.job-iterator ≤ vec_capacity l.slots)
