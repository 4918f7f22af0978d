use Rattle.std.proofs.Common.{◌+◌, ◌*◌, ℕ, ap, length}
use Rattle.std.proofs.lemmas.Result.{on_ok_weaker}
use Rattle.std.specs.List.{enumerate_from}
use Rattle.std.specs.Prelude.{flat_map}
use Rattle.cs_tools.specs.ExtentMaps.{row_count}
use Rattle.cs_tools.specs.MapPictures.{end_line, extent_text, head_text, key_text}
use Rattle.cs_advice.proofs.Appended.{appends_same}
use Rattle.cs_tools.proofs.Rows.{four_then, rows_counted}
use Rattle.cs_tools.proofs.map_pictures.draw_map.Goals as goal

pub returns : goal.returns
returns g c =
    let contents = g.W.Write.contents in
    let uses = c.args.uses.now in
    let start = contents c.args.writer.now in
    let headed = contents c.draw_head.new.writer in
    let rows = rows_counted c.div_ceil.result (length uses) c.div_ceil.ensures in
    let head = appends_same start headed (head_text (40 + 72 * c.div_ceil.result)) (head_text (40 + 72 * row_count uses)) (ap (λ (n : ℕ). head_text (40 + 72 * n)) rows) c.in_ok-draw_head.ensures in
    on_ok_weaker c.writeln.result
    (λ ended. four_then start headed (contents c.draw_key.new.writer) (contents c.draw_extents.new.writer) (contents c.writeln.new.self)
    (head_text (40 + 72 * row_count uses)) key_text (flat_map (extent_text c.args.pages) (enumerate_from 0 uses)) end_line
    head c.in_ok-draw_key.ensures c.in_ok-draw_extents.ensures ended)
    c.writeln.ensures.bytes
