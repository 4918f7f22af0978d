use Rattle.law_refinement.proofs.refusals_refined.retire_refusals_agree.Goals as goal
use Rattle.law_refinement.proofs.RefusedStages.{retire_full, retire_worn}

pub returns : goal.returns
returns c = record {
  full = λ x g i s whole are. retire_full x g i s whole are;
  worn = λ x g i s e is swept nothing room. retire_worn x g i s is.lies.whole is.lies.parts is.sound is.bounded is.lies.together e swept nothing room;
}
