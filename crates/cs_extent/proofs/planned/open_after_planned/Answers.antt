use Rattle.cs_extent.proofs.Planning.{open_next}
use Rattle.cs_extent.proofs.planned.open_after_planned.Goals as goal

pub loop-it-preserved : goal.loop-it-preserved
loop-it-preserved c = open_next c.args.before c.args.planned.now c.loop-it.it-index c.loop-it-test.true
