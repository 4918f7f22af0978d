use Rattle.law_machine.proofs.index.deletions_and_moves_weigh_no_more.Goals as goal
use Rattle.law_machine.proofs.Weights.{weight_as, weight_deletion}

pub returns : goal.returns
returns c = record {
  deletion = λ weigh index id rule is. weight_deletion weigh rule id index is;
  moved = λ weigh index id locators others is same. weight_as weigh id locators others index is same;
}
