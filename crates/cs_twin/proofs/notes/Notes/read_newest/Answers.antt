use Rattle.cs_twin.proofs.Right.{right_on}
use Rattle.cs_twin.proofs.notes.Notes.read_newest.Goals as goal

pub returns-in-Ok-clause-right : goal.returns-in-Ok-clause-right
returns-in-Ok-clause-right g c = λ h. right_on _ c.args.pairs.now c.refresh.new.self _ _ (c.read.ensures.state (c.read.ensures.honest.1 h)) (c.refresh.ensures.right (c.read.ensures.honest.1 h))
