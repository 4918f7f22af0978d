use Rattle.cs_tools.proofs.Overviewing.{live_all, live_more}
use Rattle.cs_tools.proofs.overviews.live_pages.Goals as goal

pub loop-used-preserved : goal.loop-used-preserved
loop-used-preserved c = live_more c.args.uses.now c.loop-used.used-index _ c.loop-used.live c.saturating_add-live.result c.loop-used-test.true c.loop-used.invariant c.saturating_add-live.ensures

pub returns : goal.returns
returns c = live_all c.args.uses.now c.loop-used.used-index c.loop-used.live c.loop-used-test.false c.loop-used.invariant
