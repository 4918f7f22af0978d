use Rattle.cs_advice.proofs.Appended.{whatever}
use Rattle.cs_tools.proofs.Continued.{goes_kept, goes_then}
use Rattle.cs_tools.proofs.stat_objects.print_figure_members.Goals as goal

pub returns : goal.returns
returns g c =
    let contents = g.W.Write.contents in
    let start = contents c.args.writer.now in
    let head = contents c.print_room_member.new.writer in
    let uses = contents c.print_uses.new.writer in
    let empty = contents c.print_empty_members.new.writer in
    let runs = contents c.print_runs.new.writer in
    let counts = contents c.print_count_members.new.writer in
    whatever c.flush.result (goes_kept start counts (contents c.flush.new.self)
    (goes_then start runs counts (goes_then start empty runs (goes_then start uses empty (goes_then start head uses c.in_ok-print_room_member.ensures c.in_ok-print_uses.ensures)
    c.in_ok-print_empty_members.ensures) c.in_ok-print_runs.ensures) c.in_ok-print_count_members.ensures)
    c.flush.ensures.bytes)
