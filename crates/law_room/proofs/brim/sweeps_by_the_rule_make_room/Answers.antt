use Rattle.law_room.proofs.brim.sweeps_by_the_rule_make_room.Goals as goal
use Rattle.law_room.proofs.BrimKept.{put_then}

pub returns : goal.returns
returns c = put_then
