use Rattle.law_refinement.proofs.openings_refined.read_store_refines_start.Goals as goal
use Rattle.law_refinement.proofs.Started.{read_started}

pub returns : goal.returns
returns c = λ image read limit runs together are is. let r = read_started image read.format read.versions read.records read.pages read.written
    read.root read.commands limit runs are is together in (r.0, (r.1, r.2))
