use Rattle.std.proofs.Common.{◌++◌, ℕ, ap}
use Rattle.std.proofs.lemmas.Result.{on_ok_weaker}
use Rattle.cs_tools.specs.Summaries.{great_text, more_text, small_line}
use Rattle.cs_advice.proofs.Appended.{appends_same, appends_then}
use Rattle.cs_tools.proofs.summaries.print_more.Goals as goal

pub returns : goal.returns
returns g c =
    let contents = g.W.Write.contents in
    let room = c.args.room in
    let start = contents c.args.writer.now in
    let end = contents c.print_more_great.new.writer in
    let small = small_line c.more_bytes.result in
    on_ok_weaker c.print_more_great.result
    (λ ended. appends_same start end (small ++ great_text room) (more_text room) (ap (λ (n : ℕ). small_line n ++ great_text room) c.more_bytes.ensures)
    (appends_then start (contents c.print_more_small.new.writer) end small (great_text room) c.in_ok-print_more_small.ensures ended))
    c.print_more_great.ensures
