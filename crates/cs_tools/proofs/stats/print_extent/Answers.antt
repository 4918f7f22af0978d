use Rattle.std.proofs.lemmas.Result.{on_ok_weaker}
use Rattle.cs_tools.proofs.Continued.{goes_then}
use Rattle.cs_tools.proofs.stats.print_extent.Goals as goal

pub returns : goal.returns
returns g c =
    let contents = g.W.Write.contents in
    on_ok_weaker c.print_marks.result (goes_then (contents c.args.writer.now) (contents c.print_pages.new.writer) (contents c.print_marks.new.writer) c.in_ok-print_pages.ensures) c.print_marks.ensures
