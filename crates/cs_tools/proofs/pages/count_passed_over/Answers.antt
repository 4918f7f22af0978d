use Rattle.cs_tools.proofs.Counting.{all_counted, all_halved, counted, halved_more}
use Rattle.cs_tools.proofs.pages.count_passed_over.Goals as goal

pub loop-finding-preserved : goal.loop-finding-preserved
loop-finding-preserved c =
    let was = c.loop-finding.invariant in
    record {
      none = counted c.args.findings.now c.loop-finding.finding-index _ c.loop-finding.count c.passed_over_of.result c.saturating_add-count.result c.loop-finding-test.true was.none c.passed_over_of.ensures c.saturating_add-count.ensures;
      all = halved_more c.args.findings.now c.loop-finding.finding-index _ c.loop-finding.count c.passed_over_of.result c.saturating_add-count.result c.loop-finding-test.true was.all c.passed_over_of.ensures c.saturating_add-count.ensures;
    }

pub returns-clause-none : goal.returns-clause-none
returns-clause-none c = all_counted c.args.findings.now c.loop-finding.finding-index c.loop-finding.count c.loop-finding-test.false c.loop-finding.invariant.none

pub returns-clause-count : goal.returns-clause-count
returns-clause-count c = all_halved c.args.findings.now c.loop-finding.finding-index c.loop-finding.count c.loop-finding-test.false c.loop-finding.invariant.all
