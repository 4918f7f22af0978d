use Rattle.law_room.proofs.machine_brim.the_rule_is_one_of_room.Goals as goal
use Rattle.law_room.proofs.MachineRule.{rule_ends, rule_room}

pub returns-clause-room : goal.returns-clause-room
returns-clause-room c = λ S F k s t r shape format apart has swept young.
    rule_room S F shape format apart k s t r has swept young

pub returns-clause-sweeps : goal.returns-clause-sweeps
returns-clause-sweeps c = λ S F k s t r shape format filled has swept young none.
    rule_ends S F shape format filled k s t r has swept young none
