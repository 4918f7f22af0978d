use Rattle.law_machine.proofs.sets.rounds_are_closed.Goals as goal
use Rattle.law_machine.specs.Recovery.{RootGives}
use Rattle.law_machine.proofs.RoundMoves.{between}
use Rattle.law_machine.proofs.Carries.{root_local}

pub returns : goal.returns
returns c = λ S F opening opened w X shape safe low high. between S (RootGives S F opening) opening.frozen opened
    (root_local S F shape) w X safe low high
