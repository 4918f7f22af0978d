use Rattle.law_room.proofs.newest.the_newest_root_stands.Goals as goal
use Rattle.law_room.proofs.RootsStand.{event_newest, new_newest}

pub returns-clause-new_store : goal.returns-clause-new_store
returns-clause-new_store c = new_newest

pub returns-clause-keeps : goal.returns-clause-keeps
returns-clause-keeps c = λ S J s t event some keeps old does. event_newest S J s t event some keeps old does
