use Rattle.law_refinement.proofs.moves_refined.append_refines_append.Goals as goal
use Rattle.law_refinement.proofs.Appending.{after_append}

pub returns : goal.returns
returns c = λ x y g h w reason frame l whole is a. after_append x g w whole.geometry is reason frame l y h a
