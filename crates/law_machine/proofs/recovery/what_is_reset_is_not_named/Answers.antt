use Rattle.law_machine.proofs.recovery.what_is_reset_is_not_named.Goals as goal
use Rattle.law_machine.proofs.ApartExtents.{opening_leaves, step_leaves}

pub returns : goal.returns
returns c = record {
  event = λ S F s t event reply e shape on step. step_leaves S F shape on s t event reply step e;
  opening = opening_leaves;
}
