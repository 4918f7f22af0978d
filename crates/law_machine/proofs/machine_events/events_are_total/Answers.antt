use Rattle.law_machine.proofs.machine_events.events_are_total.Goals as goal
use Rattle.law_machine.proofs.Replies.{answers}

pub returns : goal.returns
returns c = λ S F s event shape format sound bounded. answers S F shape format s event sound bounded
