use Rattle.law_refinement.proofs.moves_refined.root_refines_root.Goals as goal
use Rattle.law_refinement.proofs.Rooting.{after_root}
use Rattle.law_refinement.proofs.Shapes.{some_sections}

pub returns : goal.returns
returns c = λ x g h w v n runs m pointers whole is root.
    after_root x g h w (some_sections x whole) is v root.needs root.version root.names n runs m pointers root.page root.others
