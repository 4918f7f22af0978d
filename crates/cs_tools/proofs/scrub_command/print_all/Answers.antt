use Rattle.std.proofs.lemmas.Result.{on_ok_weaker}
use Rattle.cs_tools.specs.Pages.{pages_text}
use Rattle.cs_tools.specs.Scrubs.{found_text}
use Rattle.cs_advice.proofs.Appended.{appends_then}
use Rattle.cs_tools.proofs.scrub_command.print_all.Goals as goal

pub returns : goal.returns
returns g c =
    let contents = g.W.Write.contents in
    on_ok_weaker c.print_found.result
    (appends_then (contents c.args.writer.now) (contents c.print_all_pages.new.writer) (contents c.print_found.new.writer) (pages_text c.args.style c.args.pages.now) (found_text c.args.style c.args.found.now c.args.left) c.in_ok-print_all_pages.ensures)
    c.print_found.ensures
