use Rattle.law_refinement.proofs.images.what_is_read_recovers.Goals as goal
use Rattle.law_refinement.proofs.Found.{read_recovers}

pub returns : goal.returns
returns c = λ view read runs together are is. let r = read_recovers view read.format read.versions read.records read.pages read.written
    read.root read.commands runs is together are in (r.0, (r.1, r.2))
