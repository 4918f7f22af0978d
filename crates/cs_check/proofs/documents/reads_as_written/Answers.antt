use Rattle.cs_check.proofs.Agrees.{agrees}
use Rattle.cs_check.proofs.documents.reads_as_written.Goals as goal

pub returns : goal.returns
returns c = agrees
