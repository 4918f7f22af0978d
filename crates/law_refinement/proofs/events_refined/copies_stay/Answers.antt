use Rattle.law_refinement.proofs.events_refined.copies_stay.Goals as goal
use Rattle.law_refinement.proofs.CopiesStay.{step_copies}

pub returns : goal.returns
returns c = λ S F s t event reply step stage move retire. step_copies S F s t event reply stage move retire step
