use Rattle.law_refinement.proofs.refusals_refined.stage_apart_refusals_agree.Goals as goal
use Rattle.law_refinement.proofs.RefusedApart.{stage_full}
use Rattle.law_refinement.proofs.RefusedRetires.{may_stage, stage_worn}

pub returns : goal.returns
returns c = record {
  may = λ x g i copies s are. may_stage x g i copies s are;
  full = λ x g i s are. stage_full x g i s are;
  worn = λ x g i copies s is room. stage_worn x g i copies s is.lies.parts is.lies.apart is.lies.whole is.sound is.bounded room;
}
