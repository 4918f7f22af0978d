use Rattle.law_refinement.proofs.moves_refined.appends_refine_appends.Goals as goal
use Rattle.law_refinement.proofs.Keeping.{after_appends}

pub returns : goal.returns
returns c = λ x y g h w reason frames ls whole is all. after_appends x y g h w reason frames ls whole.geometry is all
