use Rattle.law_refinement.proofs.images.new_stores_are_new.Goals as goal
use Rattle.law_refinement.proofs.New.{is_new, new_found}

pub returns : goal.returns
returns c = record {
  new = λ view format extents pages sections is written root. is_new view format extents pages sections is written root;
  found = λ view format extents pages sections is written root. new_found view format extents pages sections is written root;
}
