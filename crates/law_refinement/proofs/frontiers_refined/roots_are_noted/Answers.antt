use Rattle.law_refinement.proofs.frontiers_refined.roots_are_noted.Goals as goal
use Rattle.law_refinement.proofs.Counted.{noted, roots_let_go, roots_opened}

pub returns : goal.returns
returns c = record {
  opened = λ S F img n m found. roots_opened S F img n m found;
  noted = λ S F s t event reply roots sound step are. noted S F s t event sound roots are reply step;
  let_go = λ s roots rest are only late. roots_let_go s roots rest are only late;
}
