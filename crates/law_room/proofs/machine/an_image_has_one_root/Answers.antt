use Rattle.law_room.proofs.machine.an_image_has_one_root.Goals as goal
use Rattle.law_room.proofs.OneRoom.{root_again}

pub returns : goal.returns
returns c = λ S F img n k m o gives other p shape format tells is.
    root_again S F shape format tells img n k m o gives other p is
