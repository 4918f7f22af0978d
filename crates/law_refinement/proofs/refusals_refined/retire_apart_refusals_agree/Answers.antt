use Rattle.law_refinement.proofs.refusals_refined.retire_apart_refusals_agree.Goals as goal
use Rattle.law_refinement.proofs.RefusedRetires.{retire_full, retire_worn}

pub returns : goal.returns
returns c = record {
  full = λ x unmarked g i counted copies s e is ends. retire_full x g i copies s e is.apart is.whole is.parts counted unmarked ends.settles ends.ended;
  worn = λ x unmarked g i counted copies s e is ends swept nothing room.
      retire_worn x g i copies s e is.lies.apart is.lies.whole is.lies.parts counted unmarked ends.settles ends.ended is.sound is.bounded swept nothing room;
}
