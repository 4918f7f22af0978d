use Rattle.law_refinement.proofs.events_refined.worlds_apart_agree.Goals as goal
use Rattle.law_refinement.proofs.Freed.{after_resets}
use Rattle.law_refinement.proofs.Keeping.{after_appends_by}

pub returns : goal.returns
returns c = record {
  appended = λ apart x y g h w reason frames ls whole is all. after_appends_by apart x y g h w reason frames ls whole.geometry is all;
  freed = λ x y g w test n is same extents. after_resets x y g w test n is same extents;
}
