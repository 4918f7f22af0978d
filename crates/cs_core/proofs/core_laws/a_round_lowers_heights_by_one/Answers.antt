use Rattle.cs_core.proofs.Heights.{gone, lowered}
use Rattle.cs_core.proofs.core_laws.a_round_lowers_heights_by_one.Goals as goal

pub returns-clause-lower : goal.returns-clause-lower
returns-clause-lower c = λ old new done x n kept last height waits. lowered old new done kept last x n height waits

pub returns-clause-first : goal.returns-clause-first
returns-clause-first c = λ old new done x kept last height. gone old new done kept last x height
