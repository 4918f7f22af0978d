use Rattle.law_machine.proofs.premises.apart_can_happen.Goals as goal
use Rattle.law_machine.proofs.ApartHappens.{abandoned_there, is_new, retired_there, shape}

pub returns : goal.returns
returns c = record { new = (shape, is_new); retired = retired_there; abandoned = abandoned_there }
