use Rattle.law_refinement.proofs.events_refined.copies_apart_refine_moves.Goals as goal
use Rattle.law_refinement.proofs.CopiesMade.{copy}

pub returns : goal.returns
returns c = λ x y g h i copies after s e id chunk payload is swept made there.
    copy x g i copies s is.apart is.parts y h e id chunk payload after is.whole swept made there.undamaged there.reads
