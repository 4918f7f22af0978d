use Rattle.std.proofs.Common.{◌≡◌, ◌+◌, ◌-◌, arith}
use Rattle.cs_deps.specs.declared.elements.Element.TheVariants.{Plain}
use Rattle.cs_picture.proofs.Steps.{one_link_more}
use Rattle.cs_picture.proofs.pictures.draw_links.Goals as goal

pub loop-i-preserved : goal.loop-i-preserved
loop-i-preserved g c =
    let contents = g.W.Write.contents in
    let next : c.loop-i.i ≡ c.loop-i.i - 1 + 1 = omega arith in
    one_link_more c.args.letters.now c.args.chain.now c.loop-i.i (c.loop-i.i - 1) (Plain 0) (contents c.args.writer.now) (contents c.loop-i.writer) (contents c.draw_bold_arrow.new.writer)
    c.loop-i-test.true next c.loop-i.invariant c.in_ok-draw_bold_arrow.ensures
