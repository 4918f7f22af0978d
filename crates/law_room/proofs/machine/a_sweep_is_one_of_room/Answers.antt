use Rattle.law_room.proofs.machine.a_sweep_is_one_of_room.Goals as goal
use Rattle.law_room.proofs.MachineSwept.{sweep_room}

pub returns : goal.returns
returns c = λ S F s t r e shape format apart has swept young. sweep_room S F shape format apart s t r e has swept young
