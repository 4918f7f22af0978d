use Rattle.law_room.proofs.gain.two_sweeps_gain.Goals as goal
use Rattle.law_room.proofs.Pairs.{pair}

pub returns : goal.returns
returns c = pair
