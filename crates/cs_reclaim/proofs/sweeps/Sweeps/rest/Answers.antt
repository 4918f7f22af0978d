use Rattle.std.proofs.Common.{◌∙◌, ap, sym}
use Rattle.cs_extent.specs.State.{extents_of, shape}
use Rattle.cs_index.specs.Copies.{newest_copies}
use Rattle.cs_reclaim.proofs.Resting.{copies_gone, copies_kept, fresh_gone, fresh_kept}
use Rattle.cs_reclaim.proofs.sweeps.Sweeps.rest.Goals as goal

pub returns-then-is_any_swept-clause-copies : goal.returns-then-is_any_swept-clause-copies
returns-then-is_any_swept-clause-copies c = copies_kept (shape c.args.extents.now) (extents_of c.args.extents.now) c.args.self.now (sym c.is_any_swept.ensures ∙ c.if-is_any_swept.true)

pub returns-then-is_any_swept-clause-extents : goal.returns-then-is_any_swept-clause-extents
returns-then-is_any_swept-clause-extents c = fresh_kept (shape c.args.extents.now) (extents_of c.args.extents.now) (sym c.is_any_swept.ensures ∙ c.if-is_any_swept.true)

pub returns-clause-copies : goal.returns-clause-copies
returns-clause-copies c = ap newest_copies c.clear.ensures.items ∙ copies_gone (shape c.args.extents.now) (extents_of c.args.extents.now) c.args.self.now (sym c.is_any_swept.ensures ∙ c.if-is_any_swept.false)

pub returns-clause-extents : goal.returns-clause-extents
returns-clause-extents c = c.rest.ensures.extents ∙ fresh_gone (shape c.args.extents.now) (extents_of c.args.extents.now) (sym c.is_any_swept.ensures ∙ c.if-is_any_swept.false)
