use Rattle.std.proofs.Common.{ℕ, List, ◌++◌}
use Rattle.std.specs.Prelude.{codes, flat_map}
use Rattle.std.proofs.lemmas.Result.{on_ok_weaker}
use Rattle.cs_picture.specs.Picture.{box_line, label_line, line_of, member_line}
use Rattle.cs_picture.proofs.Appended.{appends_then}
use Rattle.cs_picture.proofs.lines.draw_round.Goals as goal

pub returns : goal.returns
returns g c =
    let contents = g.W.Write.contents in
    let start = contents c.args.writer.now in
    let first = box_line c.args.number in
    let next = label_line c.args.number in
    let members = flat_map (member_line c.args.letters.now) c.args.round.now in
    let two = appends_then start (contents c.draw_box.new.writer) (contents c.draw_label.new.writer) first next c.in_ok-draw_box.ensures c.in_ok-draw_label.ensures in
    let three = appends_then start (contents c.draw_label.new.writer) (contents c.draw_members.new.writer) (first ++ next) members two c.in_ok-draw_members.ensures in
    on_ok_weaker c.writeln.result (appends_then start (contents c.draw_members.new.writer) (contents c.writeln.new.self) (first ++ next ++ members) (line_of (codes "  }")) three) c.writeln.ensures.bytes
