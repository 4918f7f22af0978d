use Rattle.law_refinement.proofs.refusals_refined.put_refusals_agree.Goals as goal
use Rattle.law_refinement.proofs.RefusedPuts.{put_full, put_worn}

pub returns : goal.returns
returns c = record {
  full = λ x g i s id bytes is. put_full x g i s is.whole is.parts is.together id bytes;
  worn = λ x g i s id bytes is. put_worn x g i s is.lies.whole is.lies.parts is.lies.together is.sound is.bounded id bytes;
}
