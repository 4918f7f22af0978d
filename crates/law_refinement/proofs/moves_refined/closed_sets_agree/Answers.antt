use Rattle.law_refinement.proofs.moves_refined.closed_sets_agree.Goals as goal
use Rattle.law_refinement.proofs.Closing.{both}

pub returns : goal.returns
returns c = λ S F s g members names X sound is waits cut are. both S F s.opened s.world g sound.safe is members waits X cut names are
