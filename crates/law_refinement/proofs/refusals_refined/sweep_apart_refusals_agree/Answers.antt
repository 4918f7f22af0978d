use Rattle.law_refinement.proofs.refusals_refined.sweep_apart_refusals_agree.Goals as goal
use Rattle.law_refinement.proofs.RefusedSweeps.{begin_refused, copy_damaged, copy_full, copy_worn, first_left, nothing_left}

pub returns : goal.returns
returns c = record {
  begin_sweep = λ F x g i copies s e f on are runs. begin_refused x g i copies s are on F e f runs;
  nothing_left = λ x g i copies s e are. nothing_left x g i copies s are e;
  first_left = λ x g i copies s e id chunk l are. first_left x g i copies s are e id chunk l;
  damaged = λ x g i copies s e id chunk l f whole are live. copy_damaged x g i copies s are whole e id chunk l live f;
  full = λ x g i copies s e id chunk l payload whole are live reads. copy_full x g i copies s are whole e id chunk l live payload reads;
  worn = λ x g i copies s e id chunk l payload is live there swept room.
      copy_worn x g i copies s is.lies.parts is.lies.whole e id chunk l live payload there.reads is.lies.apart is.sound is.bounded swept there.undamaged room;
}
