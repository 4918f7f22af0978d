use Rattle.law_refinement.proofs.refusals_refined.move_refusals_agree.Goals as goal
use Rattle.law_refinement.proofs.RefusedMoves.{move_full, move_worn}

pub returns : goal.returns
returns c = record {
  full = λ x g i s e id chunk l payload whole are live reads. move_full x g i s whole are e id chunk l payload live reads;
  worn = λ x g i s e id chunk l payload is live there swept room.
      move_worn x g i s is.lies.whole is.lies.parts e id chunk l payload live there.reads is.sound is.bounded is.lies.together swept there.undamaged room;
}
