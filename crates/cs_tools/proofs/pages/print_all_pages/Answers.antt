use Rattle.std.proofs.lemmas.Result.{on_ok_weaker}
use Rattle.std.specs.Prelude.{flat_map}
use Rattle.cs_tools.specs.Pages.{pair_line, section_line}
use Rattle.cs_advice.proofs.Appended.{appends_then}
use Rattle.cs_tools.proofs.pages.print_all_pages.Goals as goal

pub returns : goal.returns
returns g c =
    let contents = g.W.Write.contents in
    on_ok_weaker c.print_made.result
    (appends_then (contents c.args.writer.now) (contents c.print_pages.new.writer) (contents c.print_made.new.writer) (flat_map (pair_line c.args.style c.args.pages.now.mended) c.args.pages.now.findings.now) (flat_map (section_line c.args.style c.args.pages.now.mended) c.args.pages.now.made.now) c.in_ok-print_pages.ensures)
    c.print_made.ensures
