use Rattle.law_room.proofs.keeping.what_lives_goes_on_living.Goals as goal
use Rattle.law_room.proofs.Sharing.{sweep_leaves}
use Rattle.law_room.proofs.Staging.{stage_leaves}

pub returns-clause-stage : goal.returns-clause-stage
returns-clause-stage c = stage_leaves

pub returns-clause-sweep : goal.returns-clause-sweep
returns-clause-sweep c = sweep_leaves
