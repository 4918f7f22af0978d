use Rattle.std.proofs.Common.{ℕ, subst}
use Rattle.std.specs.Prelude.{Option, OnOk}
use Rattle.std.specs.Io.KnownBytes.{Appends}
use Rattle.cs_tools.specs.Pages.{line_where}
use Rattle.cs_advice.proofs.Appended.{appends_none}
use Rattle.cs_tools.proofs.pages.print_finding.Goals as goal

pub returns-in-Some : goal.returns-in-Some
returns-in-Some g c =
    let contents = g.W.Write.contents in
    let said = rw c.in-Some.is at c.passed_over.ensures in
    subst (λ (passed : Option ℕ). OnOk c.print_page.result (Appends (contents c.args.writer.now) (contents c.print_page.new.writer) (line_where c.args.style c.args.mended c.args.finding passed))) said c.print_page.ensures

pub returns-in-None : goal.returns-in-None
returns-in-None g c =
    let contents = g.W.Write.contents in
    let start = contents c.args.writer.now in
    let said = rw c.in-None.is at c.passed_over.ensures in
    subst (λ (passed : Option ℕ). Appends start start (line_where c.args.style c.args.mended c.args.finding passed)) said (appends_none start)
