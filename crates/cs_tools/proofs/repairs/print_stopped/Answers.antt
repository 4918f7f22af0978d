use Rattle.std.proofs.Common.{◌++◌, false}
use Rattle.std.specs.Prelude.{flat_map}
use Rattle.cs_tools.specs.Pages.{pair_line}
use Rattle.cs_tools.specs.Repairs.{lost_line}
use Rattle.cs_advice.proofs.Appended.{appends_kept, appends_then, whatever}
use Rattle.cs_tools.proofs.repairs.print_stopped.Goals as goal

pub returns : goal.returns
returns g c =
    let contents = g.W.Write.contents in
    let start = contents c.args.writer.now in
    let lines = contents c.print_pages.new.writer in
    let line = lost_line c.args.style c.args.commands in
    let pages = flat_map (pair_line c.args.style false) c.args.findings.now in
    whatever c.flush.result (appends_kept start lines (contents c.flush.new.self) (line ++ pages)
    (appends_then start (contents c.print_lost.new.writer) lines line pages c.in_ok-print_lost.ensures c.in_ok-print_pages.ensures)
    c.flush.ensures.bytes)
