use Rattle.cs_inspect.proofs.Choosing.{fewest_chosen}
use Rattle.cs_tools.proofs.headers.choose.Goals as goal

pub returns : goal.returns
returns c = fewest_chosen c.args.uses.now c.in-Some.extent c.dead-dead.result _ c.dead-dead.ensures c.args.last c.args.pages c.in-Some.ensures
