use Rattle.law_refinement.proofs.frontiers_refined.roots_are_counted.Goals as goal
use Rattle.law_refinement.proofs.Counted.{frontier_is, root_persistent}

pub returns : goal.returns
returns c = record {
  frontier = λ x g i s roots n are sound noted counted. frontier_is x g i s are sound roots n noted counted;
  persistent = λ staging d v kept plain names. root_persistent staging d v kept plain names;
}
