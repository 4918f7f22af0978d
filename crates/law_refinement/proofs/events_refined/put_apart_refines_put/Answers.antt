use Rattle.law_refinement.proofs.events_refined.put_apart_refines_put.Goals as goal
use Rattle.law_refinement.proofs.CallsApart.{put}

pub returns : goal.returns
returns c = λ x y g h i j copies s id bytes chunks ls is cut all set.
    put x g i copies s is.apart is.parts y h j id bytes chunks ls is.whole cut all set
