use Rattle.law_refinement.proofs.reads_refined.pages_are_read.Goals as goal
use Rattle.law_refinement.proofs.PagesRead.{pages_read}

pub returns : goal.returns
returns c = λ x g s held whole graph is sound device size. pages_read x g s held whole graph is sound device size
