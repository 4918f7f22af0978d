use Rattle.law_refinement.proofs.events_refined.delete_refines_delete.Goals as goal
use Rattle.law_refinement.proofs.Calls.{delete}
use Rattle.law_refinement.proofs.Indexes.{absent}

pub returns : goal.returns
returns c = record {
  deleted = λ x g i j s id are there set. delete x g i s are j id there set;
  absent = λ S F i s id sound is. absent S F i s id sound is;
}
