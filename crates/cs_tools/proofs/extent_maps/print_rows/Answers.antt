use Rattle.std.proofs.Common.{◌≡◌, ◌∙◌, ℕ, arith, length, subst}
use Rattle.std.specs.Prelude.{List}
use Rattle.std.specs.Io.KnownBytes.{Appends}
use Rattle.cs_inspect.specs.declared.surveys.ExtentUse.{ExtentUse}
use Rattle.cs_tools.specs.ExtentMaps.{line_text, rows_before}
use Rattle.cs_advice.proofs.Appended.{appends_none}
use Rattle.cs_tools.proofs.Rows.{row_more, rows_counted}
use Rattle.cs_tools.proofs.extent_maps.print_rows.Goals as goal

pub loop-number-init : goal.loop-number-init
loop-number-init g c = appends_none (g.W.Write.contents c.args.writer.now)

pub loop-number-preserved : goal.loop-number-preserved
loop-number-preserved g c =
    let contents = g.W.Write.contents in
    let after = contents c.print_row.new.writer in
    let row = subst (λ (row : List ExtentUse). Appends (contents c.loop-number.writer) after (line_text c.args.pages row)) c.row_in.ensures c.in_ok-print_row.ensures in
    row_more c.args.pages c.loop-number.number c.args.uses.now (contents c.args.writer.now) (contents c.loop-number.writer) after c.loop-number.invariant row

pub returns : goal.returns
returns g c =
    let contents = g.W.Write.contents in
    let uses = c.args.uses.now in
    let same : c.loop-number.number ≡ c.div_ceil-number-end.result = omega (arith, c.loop-number-test.false, c.loop-number.auto.number-end) in
    let all = same ∙ rows_counted c.div_ceil-number-end.result (length uses) c.div_ceil-number-end.ensures in
    subst (λ (n : ℕ). Appends (contents c.args.writer.now) (contents c.loop-number.writer) (rows_before c.args.pages n uses)) all c.loop-number.invariant
