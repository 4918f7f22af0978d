use Rattle.std.proofs.lemmas.Result.{on_ok_weaker}
use Rattle.std.specs.Prelude.{codes}
use Rattle.cs_tools.specs.MapPictures.{part_text}
use Rattle.cs_tools.proofs.Rows.{three_then}
use Rattle.cs_tools.proofs.map_pictures.draw_bar.Goals as goal

pub returns : goal.returns
returns g c =
    let contents = g.W.Write.contents in
    let number = c.args.number in
    on_ok_weaker c.draw_part-3.result
    (λ ended. three_then (contents c.args.writer.now) (contents c.draw_part.new.writer) (contents c.draw_part-2.new.writer) (contents c.draw_part-3.new.writer)
    (part_text number c.args.colour.now 0 c.args.lower) (part_text number (codes "orange") c.args.lower c.args.given) (part_text number (codes "lightgrey") c.args.given 64)
    c.in_ok-draw_part.ensures c.in_ok-draw_part-2.ensures ended)
    c.draw_part-3.ensures
