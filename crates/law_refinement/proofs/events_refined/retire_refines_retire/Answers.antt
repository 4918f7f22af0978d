use Rattle.law_refinement.proofs.events_refined.retire_refines_retire.Goals as goal
use Rattle.law_refinement.proofs.Calls.{retire}

pub returns : goal.returns
returns c = λ x y g h i j s e v is swept inside same nothing done. retire x g i s is.whole is.parts y h j e v is.together swept inside same nothing done
