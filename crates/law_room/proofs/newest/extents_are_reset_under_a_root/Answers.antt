use Rattle.law_room.proofs.newest.extents_are_reset_under_a_root.Goals as goal
use Rattle.law_room.proofs.RootsStand.{event_resets}

pub returns : goal.returns
returns c = λ S J s t event some keeps old does not. event_resets S J s t event some keeps old does not
