use Rattle.std.proofs.lemmas.Result.{on_ok_weaker}
use Rattle.std.specs.Prelude.{codes}
use Rattle.cs_tools.specs.MapPictures.{key_line}
use Rattle.cs_tools.proofs.Outlines.{five_then}
use Rattle.cs_tools.proofs.map_pictures.draw_key.Goals as goal

pub returns : goal.returns
returns g c =
    let contents = g.W.Write.contents in
    on_ok_weaker c.draw_meaning-5.result
    (λ ended. five_then (contents c.args.writer.now) (contents c.draw_meaning.new.writer) (contents c.draw_meaning-2.new.writer) (contents c.draw_meaning-3.new.writer) (contents c.draw_meaning-4.new.writer)
    (contents c.draw_meaning-5.new.writer) (key_line 40 (codes "steelblue") (codes "live")) (key_line 110 (codes "orange") (codes "dead")) (key_line 180 (codes "lightgrey") (codes "empty"))
    (key_line 260 (codes "seagreen") (codes "runs of the index")) (key_line 400 (codes "crimson") (codes "a header cannot be read"))
    c.in_ok-draw_meaning.ensures c.in_ok-draw_meaning-2.ensures c.in_ok-draw_meaning-3.ensures c.in_ok-draw_meaning-4.ensures ended)
    c.draw_meaning-5.ensures
