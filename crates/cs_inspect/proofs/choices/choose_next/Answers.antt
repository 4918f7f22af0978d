use Rattle.cs_inspect.proofs.Choosing.{next_chosen}
use Rattle.cs_inspect.proofs.choices.choose_next.Goals as goal

pub returns : goal.returns
returns c = next_chosen c.args.uses.now c.in-Some.extent c.dead-dead.result _ c.dead-dead.ensures c.args.last c.args.pages c.args.greatest c.in-Some.ensures
