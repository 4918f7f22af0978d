use Rattle.law_refinement.proofs.moves_refined.stores_keep_their_worlds.Goals as goal
use Rattle.law_refinement.proofs.Keeping.{after_mark, begun, ended, members_named}

pub returns : goal.returns
returns c = record {
  begun = λ x g h w R is same none. begun x g h w R is same none;
  ended = λ F s x g h round sound is names same none. ended F s x g h round sound is names same none;
  members = λ S F s round sound out names. members_named S F s round sound out names;
  marked = λ x y g w e b is same extents. after_mark x y g w e b is same extents;
}
