use Rattle.cs_check.proofs.ValueSteps.{found_in}
use Rattle.cs_check.proofs.readings.is_listed.Goals as goal

pub returns : goal.returns
returns c = found_in c.args.waiting.now c.args.element c.find.result c.is_some.result c.is_some.ensures c.find.ensures
