use Rattle.std.proofs.lemmas.Result.{on_ok_weaker}
use Rattle.cs_tools.specs.Summaries.{empties_line, room_text, shards_line, unread_text}
use Rattle.cs_tools.proofs.Rows.{four_then}
use Rattle.cs_tools.proofs.summaries.print_summary.Goals as goal

pub returns : goal.returns
returns g c =
    let contents = g.W.Write.contents in
    let figures = c.args.figures in
    on_ok_weaker c.print_unread.result
    (λ ended. four_then (contents c.args.writer.now) (contents c.print_shards.new.writer) (contents c.print_chunk_room.new.writer) (contents c.print_empties.new.writer) (contents c.print_unread.new.writer)
    (shards_line figures.shards) (room_text figures.room) (empties_line figures.empty) (unread_text figures.unreadable)
    c.in_ok-print_shards.ensures c.in_ok-print_chunk_room.ensures c.in_ok-print_empties.ensures ended)
    c.print_unread.ensures
