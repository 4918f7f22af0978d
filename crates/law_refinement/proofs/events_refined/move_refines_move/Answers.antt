use Rattle.law_refinement.proofs.events_refined.move_refines_move.Goals as goal
use Rattle.law_refinement.proofs.Calls.{move}

pub returns : goal.returns
returns c = λ x y g h i j s e id chunk payload is swept moved there. move x g i s is.whole is.parts y h j e id chunk payload is.together swept moved there.undamaged there.reads
