use Rattle.law_refinement.proofs.reads_refined.get_refines_get.Goals as goal
use Rattle.law_refinement.proofs.FoundShards.{get_damaged, get_found}

pub returns : goal.returns
returns c = record {
  found = λ x i s held id cs is some are. get_found x s held is.whole is.sound is.found i is.index id cs some are;
  damaged = λ x i s held id k l cs f is at are fault. get_damaged x s held is.whole is.sound is.found i is.index id k l cs f at are fault;
}
