use Rattle.cs_picture.specs.Picture.{need_lines}
use Rattle.cs_picture.proofs.Appended.{one_read}
use Rattle.cs_picture.proofs.pictures.draw_all_needs.Goals as goal

pub loop-entry-preserved : goal.loop-entry-preserved
loop-entry-preserved g c =
    let contents = g.W.Write.contents in
    one_read (need_lines c.args.letters.now c.args.waiting.now) c.args.waiting.now c.loop-entry.entry-index c.entry-item.result (contents c.args.writer.now) (contents c.loop-entry.writer) (contents c.draw_needs.new.writer)
    c.loop-entry-test.true c.entry-item.is c.loop-entry.invariant c.in_ok-draw_needs.ensures
