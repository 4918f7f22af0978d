use Rattle.law_refinement.proofs.events_refined.put_refines_put.Goals as goal
use Rattle.law_refinement.proofs.Calls.{put}

pub returns : goal.returns
returns c = λ x y g h i j s id bytes cs ls is cut all set. put x g i s is.parts y h j id bytes cs ls is.together is.whole cut all set
