use Rattle.std.proofs.Common.{length, take, ap, arith, length-append}
use Rattle.std.proofs.lemmas.List.{length-take-le}
use Rattle.cs_frame.specs.Pointers.{spelled_extents}
use Rattle.std.proofs.lemmas.Grind.{common_steps}
use Rattle.cs_frame.proofs.Pieces.{all_more}
use Rattle.cs_frame.specs.Pointers.{FitsGeneration}
use Rattle.cs_frame.specs.Buffers.{text_of}
use Rattle.cs_frame.proofs.ExtentPageLaws.{length-spelled_extents}
use Rattle.cs_frame.proofs.superblocks.append_extents.Goals as goal

pub append_extent-requires : goal.append_extent-requires
append_extent-requires c =
    let before = take c.loop-extent.extent-index c.args.extents.now in
    omega (arith, ap length c.loop-extent.invariant.0, length-append (text_of c.args.page.now) (spelled_extents before), length-spelled_extents before, length-take-le c.loop-extent.extent-index c.args.extents.now)

pub loop-extent-preserved : goal.loop-extent-preserved
loop-extent-preserved c = (
  grind (arith, common_steps, c.loop-extent.invariant.0, c.append_extent.ensures.text),
  all_more FitsGeneration c.args.extents.now c.loop-extent.extent-index (0, 0) c.loop-extent-test.true c.loop-extent.invariant.1 c.append_extent.ensures.generation,
)
