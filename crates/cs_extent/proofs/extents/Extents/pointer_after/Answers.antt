use Rattle.std.proofs.Common.{◌∙◌}
use Rattle.cs_extent.specs.State.{extents_of}
use Rattle.cs_extent.proofs.Planning.{pointer_next}
use Rattle.cs_extent.proofs.extents.Extents.pointer_after.Goals as goal

pub loop-it-preserved : goal.loop-it-preserved
loop-it-preserved c =
    c.pointer_of-pointer.ensures
    ∙ pointer_next (extents_of c.args.self.now).pointer c.args.planned.now c.loop-it.it-index c.args.extent c.loop-it.pointer c.loop-it-test.true c.loop-it.invariant
