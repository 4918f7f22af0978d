use Rattle.cs_inspect.proofs.Brim.{next_dead, next_sure}
use Rattle.cs_inspect.proofs.choices.next_to_sweep.Goals as goal

pub returns-in-Some-fewest_but : goal.returns-in-Some-fewest_but
returns-in-Some-fewest_but c = next_dead c.args.uses.now c.args.last c.args.pages c.args.greatest c.in-Some-fewest_but.extent c.in-None.ensures c.in-Some-fewest_but.ensures

pub returns-in-None-fewest_but : goal.returns-in-None-fewest_but
returns-in-None-fewest_but c = next_sure c.args.uses.now c.args.last c.args.pages c.args.greatest c.sure_to_gain.result c.in-None.ensures c.in-None-fewest_but.ensures c.sure_to_gain.ensures
