use Rattle.law_machine.proofs.recovery.a_new_store_is_empty.Goals as goal
use Rattle.law_machine.proofs.Unique.{new_store}

pub returns : goal.returns
returns c = new_store
