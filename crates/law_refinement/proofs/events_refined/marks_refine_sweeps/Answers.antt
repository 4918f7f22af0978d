use Rattle.law_refinement.proofs.events_refined.marks_refine_sweeps.Goals as goal
use Rattle.law_refinement.proofs.Calls.{abandon, sweep}

pub returns : goal.returns
returns c = record {
  begun = λ x y g i s e together are may same extents. sweep x y g i s e are same together may extents;
  abandoned = λ x y g i s e are swept same extents. abandon x y g i s e are same swept extents;
}
