use Rattle.std.proofs.Common.{ℕ, subst}
use Rattle.std.specs.Prelude.{◌++◌, OnOk}
use Rattle.std.specs.Io.KnownBytes.{Appends}
use Rattle.std.proofs.lemmas.Result.{on_ok_weaker}
use Rattle.cs_advice.specs.Advised.{found_text, longer_text, missing_text}
use Rattle.cs_advice.proofs.Appended.{appends_then}
use Rattle.cs_advice.proofs.tellings.print_length.Goals as goal

pub returns : goal.returns
returns g c =
    let contents = g.W.Write.contents in
    let start = contents c.args.writer.now in
    let mid = contents c.print_missing.new.writer in
    let end = contents c.print_longer.new.writer in
    let found = found_text c.args.pages c.args.wanted in
    let missing = missing_text c.args.pages c.args.wanted in
    subst (λ (bytes : ℕ). OnOk c.print_longer.result (Appends start end (found ++ missing ++ longer_text bytes c.args.wanted))) c.saturating_mul.ensures
    (on_ok_weaker c.print_longer.result
    (λ ended. appends_then start mid end (found ++ missing) (longer_text c.saturating_mul.result c.args.wanted)
    (appends_then start (contents c.print_found.new.writer) mid found missing c.in_ok-print_found.ensures c.in_ok-print_missing.ensures) ended)
    c.print_longer.ensures)
