use Rattle.std.proofs.Common.{arith}
use Rattle.cs_tools.specs.MapPictures.{extent_text}
use Rattle.cs_advice.proofs.Appended.{appends_none}
use Rattle.cs_tools.proofs.Outlines.{all_numbered, one_numbered}
use Rattle.cs_tools.proofs.map_pictures.draw_extents.Goals as goal

pub loop-number-init : goal.loop-number-init
loop-number-init g c = appends_none (g.W.Write.contents c.args.writer.now)

pub loop-number-preserved : goal.loop-number-preserved
loop-number-preserved g c =
    let contents = g.W.Write.contents in
    one_numbered (extent_text c.args.pages) c.args.uses.now c.loop-number.number _ (contents c.args.writer.now) (contents c.loop-number.writer) (contents c.draw_extent.new.writer)
    (omega arith) c.loop-number.invariant c.in_ok-draw_extent.ensures

pub returns : goal.returns
returns g c =
    let contents = g.W.Write.contents in
    all_numbered (extent_text c.args.pages) c.args.uses.now c.loop-number.number (contents c.args.writer.now) (contents c.loop-number.writer) (omega arith) c.loop-number.invariant
