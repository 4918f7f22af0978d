use Rattle.law_refinement.proofs.events_refined.stage_refines_stage.Goals as goal
use Rattle.law_refinement.proofs.Calls.{merge_staged, newest_staged, sized_staged, table_staged}

pub returns : goal.returns
returns c = record {
  newest = λ x y g h i j s v is some done. newest_staged x g i s is.whole is.parts y h j v is.together some done;
  sized = λ x y g h i j s v is sized some done. sized_staged x g i s is.whole is.parts y h j v is.together sized some done;
  table = λ x y g h i j s v is before some few done. table_staged x g i s is.whole is.parts y h j v is.together before some few done;
  merged = λ x y g h i j s v is before some many done. merge_staged x g i s is.whole is.parts y h j v is.together before some many done;
}
