use Rattle.law_room.proofs.gain.one_sweep_may_gain.Goals as goal
use Rattle.law_room.proofs.Gaining.{single}

pub returns : goal.returns
returns c = single
