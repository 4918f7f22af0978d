use Rattle.cs_inspect.proofs.Brim.{sure_all, sure_more}
use Rattle.cs_inspect.proofs.choices.sure_beside.Goals as goal

pub loop-extent-preserved : goal.loop-extent-preserved
loop-extent-preserved c = sure_more c.args.uses.now c.args.pages c.args.greatest c.args.swept c.loop-extent.extent c.loop-extent.sure c.sure_in.result c.saturating_add-sure.result
    c.loop-extent.invariant c.loop-extent-test.true c.sure_in.ensures c.saturating_add-sure.ensures

pub returns : goal.returns
returns c = sure_all c.args.uses.now c.args.pages c.args.greatest c.args.swept c.loop-extent.extent c.loop-extent.sure c.loop-extent-test.false c.loop-extent.invariant
