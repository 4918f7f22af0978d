use Rattle.std.proofs.Common.{rules}
use Rattle.std.proofs.lemmas.Option.{slice_get_read}
use Rattle.cs_plan.proofs.chains.first_of_last.Goals as goal

pub returns-else-is_empty-2-clause-some : goal.returns-else-is_empty-2-clause-some
returns-else-is_empty-2-clause-some c = (c.index-rounds-rounds.result, search (rules, slice_get_read), search rules)
