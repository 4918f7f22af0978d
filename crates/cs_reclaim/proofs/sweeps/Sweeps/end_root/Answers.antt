use Rattle.std.proofs.Common.{◌∙◌, refl}
use Rattle.cs_extent.specs.State.{extents_of, shape}
use Rattle.cs_reclaim.specs.Rooted.{extents_at_rest}
use Rattle.cs_reclaim.proofs.Resting.{freed_as, resets_then}
use Rattle.cs_reclaim.proofs.sweeps.Sweeps.end_root.Goals as goal

pub returns-clause-rooted : goal.returns-clause-rooted
returns-clause-rooted c = record {
  copies_rest = c.rest.ensures.copies;
  freed = c.free_blank.ensures.freed
      ∙ freed_as (shape c.args.extents.now) (shape c.rest.new.extents) (extents_at_rest (shape c.args.extents.now) (extents_of c.args.extents.now)) (extents_of c.rest.new.extents) c.args.index.now c.rest.new.self c.args.root c.rest.ensures.shape c.rest.ensures.extents;
  same_shape = c.free_blank.ensures.shape ∙ c.rest.ensures.shape;
}

pub returns-clause-resets : goal.returns-clause-resets
returns-clause-resets c = λ most old le.
    resets_then (shape c.args.extents.now) (extents_of c.args.extents.now) (extents_of c.rest.new.extents) (extents_of c.free_blank.new.extents) c.args.index.now c.rest.new.self c.args.root most c.rest.ensures.extents
    (c.free_blank.ensures.freed ∙ freed_as (shape c.args.extents.now) (shape c.rest.new.extents) (extents_of c.rest.new.extents) (extents_of c.rest.new.extents) c.args.index.now c.rest.new.self c.args.root c.rest.ensures.shape refl) old le
