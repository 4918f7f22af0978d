use Rattle.std.proofs.Common.{◌+◌}
use Rattle.std.proofs.lemmas.Result.{on_ok_weaker}
use Rattle.cs_tools.specs.MapPictures.{rect_line, word_line}
use Rattle.cs_advice.proofs.Appended.{appends_then}
use Rattle.cs_tools.proofs.map_pictures.draw_meaning.Goals as goal

pub returns : goal.returns
returns g c =
    let contents = g.W.Write.contents in
    on_ok_weaker c.draw_word.result
    (λ ended. appends_then (contents c.args.writer.now) (contents c.draw_rect.new.writer) (contents c.draw_word.new.writer)
    (rect_line c.args.left 10 10 c.args.colour.now) (word_line (c.args.left + 14) 19 c.args.word.now) c.in_ok-draw_rect.ensures ended)
    c.draw_word.ensures
