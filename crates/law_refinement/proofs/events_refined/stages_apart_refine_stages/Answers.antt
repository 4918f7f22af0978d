use Rattle.law_refinement.proofs.events_refined.stages_apart_refine_stages.Goals as goal
use Rattle.law_refinement.proofs.RefusedRetires.{idle}
use Rattle.law_refinement.proofs.StagesApart.{retire, stage}

pub returns : goal.returns
returns c = record {
  staged = λ x y g h i j copies after s v is may done. stage x g i copies s is.apart is.whole.geometry is.parts y h j after v may done;
  idle = λ x g i copies s on are none. idle x g i copies s are on none;
  retired = λ x y g h i j copies after s e v is swept all done. retire x g i copies s e is.apart is.whole.geometry is.parts y h j after v swept all done;
}
