use Rattle.cs_deps.specs.declared.elements.Element.TheVariants.{Plain}
use Rattle.cs_picture.specs.Picture.{bold_line}
use Rattle.cs_picture.proofs.Appended.{one_more}
use Rattle.cs_picture.proofs.pictures.draw_chain.Goals as goal

pub loop-element-preserved : goal.loop-element-preserved
loop-element-preserved g c =
    let contents = g.W.Write.contents in
    one_more (bold_line c.args.letters.now) c.args.chain.now c.loop-element.element-index (Plain 0) (contents c.args.writer.now) (contents c.loop-element.writer) (contents c.draw_bold.new.writer)
    c.loop-element-test.true c.loop-element.invariant c.in_ok-draw_bold.ensures
