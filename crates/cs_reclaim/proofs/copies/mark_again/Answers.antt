use Rattle.cs_reclaim.proofs.Restoring.{restored}
use Rattle.cs_reclaim.proofs.copies.mark_again.Goals as goal

pub returns : goal.returns
returns c = λ before whole is ended.
    restored before c.args.extents.now c.set_swept.new.self c.args.extent whole c.extent_count.ensures.whole is ended.mark c.set_swept.ensures.extents ended.same_shape c.set_swept.ensures.shape
