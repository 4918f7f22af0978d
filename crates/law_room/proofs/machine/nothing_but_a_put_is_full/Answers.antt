use Rattle.law_room.proofs.machine.nothing_but_a_put_is_full.Goals as goal
use Rattle.law_room.proofs.MachineFull.{only_puts}

pub returns : goal.returns
returns c = λ S F s r event shape format apart fit has told full.
    only_puts S F shape format apart s r event has fit told full
