use Rattle.std.proofs.Common.{◌≡◌}
use Rattle.cs_extent.specs.State.{extents_of, shape}
use Rattle.cs_index.specs.State.{index_of}
use Rattle.law_machine.specs.Apart.{is_blank_by, reset_all}
use Rattle.cs_reclaim.specs.Rooted.{lying_apart}
use Rattle.cs_reclaim.proofs.roots.free_blank.Given as goal

abbrev pub invariant-loop-e : goal.invariant-loop-e
invariant-loop-e l = record {
  freed : extents_of l.extents
      ≡ reset_all (lying_apart (shape l.initial.extents)) (extents_of l.initial.extents) l.root (is_blank_by (shape l.initial.extents) (extents_of l.initial.extents) (index_of l.index) l.index.runs l.copies) l.e;
  same_shape : shape l.extents ≡ shape l.initial.extents;
}
