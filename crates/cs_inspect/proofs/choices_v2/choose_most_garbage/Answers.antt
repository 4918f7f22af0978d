use Rattle.cs_inspect.proofs.Choosing.{not_chosen, some_chosen}
use Rattle.cs_inspect.proofs.choices_v2.choose_most_garbage.Goals as goal

pub returns-then-dead-index_pages : goal.returns-then-dead-index_pages
returns-then-dead-index_pages c = some_chosen c.args.uses.now c.in-Some.extent c.dead-dead.result _ c.dead-dead.ensures c.in-Some.ensures c.args.index_pages c.if-dead-index_pages.true

pub returns-else-dead-index_pages : goal.returns-else-dead-index_pages
returns-else-dead-index_pages c = not_chosen c.args.uses.now c.in-Some.extent c.dead-dead.result _ c.dead-dead.ensures c.in-Some.ensures c.args.index_pages c.if-dead-index_pages.false
