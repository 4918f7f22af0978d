use Rattle.std.proofs.Common.{rules}
use Rattle.std.proofs.lemmas.Fn.{filter_same}
use Rattle.cs_deps.specs.Levels.{entry_live}
use Rattle.cs_deps.proofs.cleaning.keep_live.Goals as goal

pub returns-clause-items : goal.returns-clause-items
returns-clause-items c = filter_same _ (λ w. entry_live c.args.levels.now c.args.floors.now w.0) _ (λ x b f' k. search rules) _ _ c.retain.ensures.filtered
