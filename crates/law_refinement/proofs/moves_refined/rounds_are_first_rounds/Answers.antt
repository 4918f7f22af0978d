use Rattle.law_refinement.proofs.moves_refined.rounds_are_first_rounds.Goals as goal
use Rattle.law_refinement.proofs.Heights.{first_round}

pub returns : goal.returns
returns c = λ S F s R g target z sound is all round. first_round S F s.opened s.world g sound.safe is target all R round z
