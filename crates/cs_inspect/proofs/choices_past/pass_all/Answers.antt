use Rattle.cs_inspect.proofs.Passing.{passing_more}
use Rattle.cs_inspect.proofs.choices_past.pass_all.Goals as goal

pub loop-i-preserved : goal.loop-i-preserved
loop-i-preserved c = passing_more c.args.passed.now c.loop-i.i c.args.uses.now _ _ c.loop-i-test.true c.loop-i.invariant c.pass_one.ensures
