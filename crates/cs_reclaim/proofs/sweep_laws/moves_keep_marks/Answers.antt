use Rattle.cs_reclaim.proofs.Marked.{meant_before}
use Rattle.cs_reclaim.proofs.sweep_laws.moves_keep_marks.Goals as goal

pub returns : goal.returns
returns c = meant_before
