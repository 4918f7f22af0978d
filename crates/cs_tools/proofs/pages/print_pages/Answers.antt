use Rattle.std.proofs.Common.{ℕ, List, ap, subst, take_all}
use Rattle.std.specs.Prelude.{flat_map}
use Rattle.std.specs.Io.KnownBytes.{Appends}
use Rattle.cs_tools.specs.Pages.{pair_line}
use Rattle.cs_advice.proofs.Appended.{one_more}
use Rattle.cs_tools.proofs.pages.print_pages.Goals as goal

pub loop-finding-preserved : goal.loop-finding-preserved
loop-finding-preserved g c =
    let contents = g.W.Write.contents in
    one_more (pair_line c.args.style c.args.mended) c.args.findings.now c.loop-finding.finding-index _ (contents c.args.writer.now) (contents c.loop-finding.writer) (contents c.print_finding.new.writer)
    c.loop-finding-test.true c.loop-finding.invariant c.in_ok-print_finding.ensures

pub returns : goal.returns
returns g c =
    let contents = g.W.Write.contents in
    subst (λ (xs : List ℕ). Appends (contents c.args.writer.now) (contents c.loop-finding.writer) xs) (ap (flat_map (pair_line c.args.style c.args.mended)) (take_all c.loop-finding.finding-index c.args.findings.now c.loop-finding-test.false)) c.loop-finding.invariant
