use Rattle.law_room.proofs.gain.no_sweep_takes_extents.Goals as goal
use Rattle.law_room.proofs.Gaining.{no_more}

pub returns : goal.returns
returns c = no_more
