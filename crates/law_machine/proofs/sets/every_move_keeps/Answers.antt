use Rattle.law_machine.proofs.sets.every_move_keeps.Goals as goal
use Rattle.law_machine.proofs.Wants.{move_keeps}

pub returns : goal.returns
returns c = move_keeps
