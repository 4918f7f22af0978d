use Rattle.law_room.proofs.examples.a_new_store_keeps.Goals as goal
use Rattle.law_room.proofs.NewStore.{new_keeps}

pub returns : goal.returns
returns c = new_keeps
