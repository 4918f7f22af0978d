use Rattle.std.proofs.Common.{◌≡◌, length, take}
use Rattle.cs_extent.specs.State.{extents_of, shape}
use Rattle.cs_extent.proofs.Planning.{IsPlanned}
use Rattle.cs_extent.proofs.extents.Extents.count_planned.Given as goal

abbrev pub invariant-loop-i : goal.invariant-loop-i
invariant-loop-i l = record {
  size : length l.planned ≡ 8;
  so_far : IsPlanned (shape l.self) (extents_of l.self) l.frame_pages l.i (take l.i l.planned) l.counts;
}
