use Rattle.law_room.proofs.machine.each_event_is_one_of_room.Goals as goal
use Rattle.law_room.proofs.MachineNames.{step_roomy}
use Rattle.law_room.proofs.MachineSteps.{history_room, step_room}

pub returns-clause-event : goal.returns-clause-event
returns-clause-event c = λ S F s t r event reply shape format apart has step young.
    step_room S F shape format apart s t r has young event reply step

pub returns-clause-roomy : goal.returns-clause-roomy
returns-clause-roomy c = λ S F s t r event reply shape format apart has step young.
    step_roomy S F apart shape format s t r has young event reply step

pub returns-clause-history : goal.returns-clause-history
returns-clause-history c = λ S F s t r history shape format apart has run young.
    history_room S F shape format apart s t r history has run young
