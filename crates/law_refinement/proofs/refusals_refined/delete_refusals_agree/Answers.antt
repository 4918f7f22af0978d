use Rattle.law_refinement.proofs.refusals_refined.delete_refusals_agree.Goals as goal
use Rattle.law_refinement.proofs.RefusedPuts.{delete_worn}

pub returns : goal.returns
returns c = λ x s id sound bounded. delete_worn x s sound bounded id
