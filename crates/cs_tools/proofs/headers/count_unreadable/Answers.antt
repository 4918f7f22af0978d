use Rattle.cs_tools.proofs.Readable.{all_counted, counted, none_counted}
use Rattle.cs_tools.proofs.headers.count_unreadable.Goals as goal

pub loop-used-init : goal.loop-used-init
loop-used-init c = none_counted

pub loop-used-preserved : goal.loop-used-preserved
loop-used-preserved c =
    counted c.args.uses.now c.loop-used.used-index _ c.loop-used.count c.saturating_add-count.result c.loop-used-test.true c.loop-used.invariant c.saturating_add-count.ensures

pub returns : goal.returns
returns c = all_counted c.args.uses.now c.loop-used.used-index c.loop-used.count c.loop-used-test.false c.loop-used.invariant
