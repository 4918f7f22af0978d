use Rattle.law_refinement.proofs.moves_refined.opened_stores_have_worlds.Goals as goal
use Rattle.law_refinement.proofs.Opening.{opened}
use Rattle.law_refinement.proofs.Shapes.{some_sections}

pub returns : goal.returns
returns c = λ x g F img n m found versions whole are extents same. opened x g F img n m found versions (some_sections x whole) are.all_listed are.each extents same
