use Rattle.law_room.proofs.room.what_needs_a_place_happens.Goals as goal
use Rattle.law_room.specs.Events.{settled}
use Rattle.law_room.proofs.Places.{some_empty}
use Rattle.law_room.proofs.Whole.{move_there, stages_there}

pub returns-clause-stage : goal.returns-clause-stage
returns-clause-stage c = λ S J s newest pages all keeps fits.
    stages_there S J s newest pages all (some_empty S J s keeps) fits

pub returns-clause-move_one : goal.returns-clause-move_one
returns-clause-move_one c = λ S J s w chunk keeps is got left. move_there S J s w chunk keeps is got left

pub returns-clause-retire : goal.returns-clause-retire
returns-clause-retire c = λ S J s w newest pages all keeps is copied fits.
    let after = stages_there S J (settled s) newest pages all (some_empty S J s keeps) fits in
    (after.0, (w, is, copied, after.1))
