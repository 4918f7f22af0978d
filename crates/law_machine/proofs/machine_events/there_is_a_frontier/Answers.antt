use Rattle.law_machine.proofs.machine_events.there_is_a_frontier.Goals as goal
use Rattle.law_machine.proofs.Lists.{some_frontier}

pub returns : goal.returns
returns c = some_frontier
