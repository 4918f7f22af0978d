use Rattle.law_refinement.proofs.refusals_refined.stage_refusals_agree.Goals as goal
use Rattle.law_refinement.proofs.RefusedStages.{stage_full, no_room_to_stage, stage_worn}

pub returns : goal.returns
returns c = record {
  full = λ x g i s is before. stage_full x g i s is.whole is.parts is.together before;
  no_room = λ x g i s whole are. no_room_to_stage x g i s whole are;
  worn = λ x g i s is room. stage_worn x g i s is.lies.whole is.lies.parts is.sound is.bounded is.lies.together room;
}
