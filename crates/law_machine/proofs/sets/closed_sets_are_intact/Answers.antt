use Rattle.law_machine.proofs.sets.closed_sets_are_intact.Goals as goal
use Rattle.law_machine.proofs.ClosedSets.{intact}

pub returns : goal.returns
returns c = intact
