use Rattle.law_machine.proofs.machine_crashes.every_event_keeps.Goals as goal
use Rattle.law_machine.proofs.Keeps.{steps}

pub returns : goal.returns
returns c = λ S F s t event reply shape format sound bounded step.
    steps S F shape format s t event reply sound bounded step
