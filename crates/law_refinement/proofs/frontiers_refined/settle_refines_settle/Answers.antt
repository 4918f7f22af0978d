use Rattle.law_refinement.proofs.frontiers_refined.settle_refines_settle.Goals as goal
use Rattle.law_refinement.proofs.Counted.{not_settled, settled}

pub returns : goal.returns
returns c = record {
  persistent = λ S F s n f front some low. settled S F s n f front some low;
  not_yet = λ S F s n f front high. not_settled S F s n f front high;
}
