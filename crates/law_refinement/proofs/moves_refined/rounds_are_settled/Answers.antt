use Rattle.law_refinement.proofs.moves_refined.rounds_are_settled.Goals as goal
use Rattle.law_refinement.proofs.Settling.{round_settled, some_section}

pub returns : goal.returns
returns c = λ S F s g round sound is names. round_settled S F s.opened s.world g sound.safe (some_section S F s sound) is round names
