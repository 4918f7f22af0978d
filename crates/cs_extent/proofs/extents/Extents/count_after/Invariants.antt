use Rattle.std.proofs.Common.{◌≡◌, ◌≤◌}
use Rattle.law_machine.specs.Extents.{how_many}
use Rattle.cs_extent.specs.Kinds.{is_of_runs}
use Rattle.cs_extent.specs.Planned.{after_planned, holds}
use Rattle.cs_extent.specs.State.{extents_of}
use Rattle.cs_extent.proofs.extents.Extents.count_after.Given as goal

abbrev pub invariant-loop-e : goal.invariant-loop-e
invariant-loop-e l = record {
  counted : l.count ≡ how_many (holds (after_planned (extents_of l.self) l.planned) (is_of_runs l.kind)) l.e;
  within : l.count ≤ l.e;
}
