use Rattle.cs_index.specs.State.{id_number}
use Rattle.cs_index.proofs.Weights.{no_more_light}
use Rattle.cs_index.proofs.indexes.Index.replace_if.Goals as goal

pub enter-requires-clause-limit : goal.enter-requires-clause-limit
enter-requires-clause-limit c = no_more_light c.args.self.now (id_number c.args.id) c.args.old.now c.args.new.items c.run_count.ensures.whole c.if-not-has.ensures c.requires.no_more
