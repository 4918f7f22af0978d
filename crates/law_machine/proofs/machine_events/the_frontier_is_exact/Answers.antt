use Rattle.law_machine.proofs.machine_events.the_frontier_is_exact.Goals as goal
use Rattle.law_machine.proofs.Lists.{frontier_is}

pub returns : goal.returns
returns c = frontier_is
