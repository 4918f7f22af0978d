use Rattle.law_room.proofs.brim.a_sure_sweep_gains.Goals as goal
use Rattle.law_room.proofs.BrimGain.{sure_gains}

pub returns : goal.returns
returns c = sure_gains
