use Rattle.law_machine.proofs.index.weights_count_newest_entries.Goals as goal
use Rattle.law_machine.proofs.Weights.{ascending_weight, named_parts, names_weigh, weight_alike, weight_no_more, weight_one}

pub returns : goal.returns
returns c = record {
  each = weight_one;
  no_more = weight_no_more;
  alike = weight_alike;
  run = ascending_weight;
  parts = named_parts;
  names = λ weigh index rule. names_weigh weigh rule index;
}
