use Rattle.law_refinement.proofs.openings_refined.what_is_found_is_the_start.Goals as goal
use Rattle.law_refinement.proofs.Started.{started}

pub returns : goal.returns
returns c = λ x image versions root format limit n runs m found together whole as_found. started x image versions root format limit n runs m found whole as_found together
