use Rattle.std.proofs.Common.{rules}
use Rattle.cs_writeback.proofs.syncs.end_round.Goals as goal

pub returns-in-Err-clause-refused : goal.returns-in-Err-clause-refused
returns-in-Err-clause-refused g c = (search rules, c.in-Err.ensures.refused.0, c.in-Err.ensures.refused.1)
