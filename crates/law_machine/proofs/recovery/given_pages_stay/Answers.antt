use Rattle.law_machine.proofs.recovery.given_pages_stay.Goals as goal
use Rattle.law_machine.proofs.GivenPages.{step_leaves}

pub returns : goal.returns
returns c S F s t event reply e shape step = step_leaves S F shape s t event reply step e
