use Rattle.std.proofs.Common.{ℕ, List, ap, subst, take_all}
use Rattle.std.specs.Prelude.{flat_map}
use Rattle.std.specs.Io.KnownBytes.{Appends}
use Rattle.cs_tools.specs.Pages.{section_line}
use Rattle.cs_advice.proofs.Appended.{one_more}
use Rattle.cs_tools.proofs.pages.print_made.Goals as goal

pub loop-page-preserved : goal.loop-page-preserved
loop-page-preserved g c =
    let contents = g.W.Write.contents in
    one_more (section_line c.args.style c.args.mended) c.args.made.now c.loop-page.page-index _ (contents c.args.writer.now) (contents c.loop-page.writer) (contents c.print_section.new.writer)
    c.loop-page-test.true c.loop-page.invariant c.in_ok-print_section.ensures

pub returns : goal.returns
returns g c =
    let contents = g.W.Write.contents in
    subst (λ (xs : List ℕ). Appends (contents c.args.writer.now) (contents c.loop-page.writer) xs) (ap (flat_map (section_line c.args.style c.args.mended)) (take_all c.loop-page.page-index c.args.made.now c.loop-page-test.false)) c.loop-page.invariant
