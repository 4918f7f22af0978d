use Rattle.law_refinement.proofs.refusals_refined.refusals_keep_their_numbers.Goals as goal
use Rattle.law_refinement.proofs.Numbered.{one_refusal, same_number}

pub returns : goal.returns
returns c = record {
  number = λ f. same_number f;
  frames = λ x view kind l f at. one_refusal x view kind l f at;
}
