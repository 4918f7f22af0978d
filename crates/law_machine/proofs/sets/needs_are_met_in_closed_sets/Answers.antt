use Rattle.law_machine.proofs.sets.needs_are_met_in_closed_sets.Goals as goal
use Rattle.law_machine.proofs.Wants.{needs_met}

pub returns : goal.returns
returns c = needs_met
