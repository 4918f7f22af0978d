use Rattle.std.proofs.Common.{refl}
use Rattle.cs_store.proofs.Reserving.{total_all, total_more}
use Rattle.cs_store.proofs.reserves.total_live.Goals as goal

pub loop-extent-init : goal.loop-extent-init
loop-extent-init c = refl

pub loop-extent-preserved : goal.loop-extent-preserved
loop-extent-preserved c = total_more c.args.uses.now c.loop-extent.extent c.loop-extent.live _ c.saturating_add-live.result c.loop-extent.invariant c.loop-extent-test.true c.saturating_add-live.ensures

pub returns : goal.returns
returns c = total_all c.args.uses.now c.loop-extent.extent c.loop-extent.live c.loop-extent-test.false c.loop-extent.invariant
