use Rattle.cs_advice.proofs.Appended.{whatever}
use Rattle.cs_tools.proofs.Continued.{goes_kept, goes_then}
use Rattle.cs_tools.proofs.stats.print_figures.Goals as goal

pub returns : goal.returns
returns g c =
    let contents = g.W.Write.contents in
    let start = contents c.args.writer.now in
    let room = contents c.print_room.new.writer in
    let extents = contents c.print_extents.new.writer in
    let empty = contents c.print_empty.new.writer in
    let quota = contents c.print_quota.new.writer in
    let runs = contents c.print_run_lines.new.writer in
    let counts = contents c.print_counts.new.writer in
    whatever c.flush.result (goes_kept start counts (contents c.flush.new.self)
    (goes_then start runs counts (goes_then start quota runs (goes_then start empty quota (goes_then start extents empty (goes_then start room extents c.in_ok-print_room.ensures c.in_ok-print_extents.ensures) c.in_ok-print_empty.ensures) c.in_ok-print_quota.ensures) c.in_ok-print_run_lines.ensures) c.in_ok-print_counts.ensures)
    c.flush.ensures.bytes)
