use Rattle.law_refinement.proofs.events_refined.sweeps_apart_refine_sweeps.Goals as goal
use Rattle.law_refinement.proofs.CallsApart.{abandon, begin_sweep, none_left}

pub returns : goal.returns
returns c = record {
  begun = λ x y g i copies s e on are may same extents. begin_sweep x g i copies s on are y e may same extents;
  abandoned = λ x y g i copies s e are swept same extents. abandon x g i copies s are y e swept same extents;
  done = λ x g i copies s e on are swept all. none_left x g i copies s on are e swept all;
}
