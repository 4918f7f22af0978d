use Rattle.std.proofs.lemmas.Result.{on_ok_weaker}
use Rattle.cs_tools.specs.Scrubs.{place_text, run_text}
use Rattle.cs_advice.proofs.Appended.{appends_then}
use Rattle.cs_tools.proofs.scrub_command.print_damaged_run.Goals as goal

pub returns : goal.returns
returns g c =
    let contents = g.W.Write.contents in
    on_ok_weaker c.print_place.result
    (appends_then (contents c.args.writer.now) (contents c.print_run.new.writer) (contents c.print_place.new.writer) (run_text c.args.style) (place_text c.args.style c.args.place c.args.refusal) c.in_ok-print_run.ensures)
    c.print_place.ensures
