use Rattle.law_room.proofs.room.there_is_room.Goals as goal
use Rattle.law_room.proofs.Places.{copy_goes, run_goes}

pub returns-clause-stage : goal.returns-clause-stage
returns-clause-stage c = λ S J s newest pages all keeps fits none. run_goes S J s pages all keeps fits none.3

pub returns-clause-move_one : goal.returns-clause-move_one
returns-clause-move_one c = λ S J s keeps none. let place = copy_goes S J s none.0 none.1 keeps none.2 none.3 none.4 in
    none.5 place.0 place.1 place.2

pub returns-clause-retire : goal.returns-clause-retire
returns-clause-retire c = λ S J s newest pages all keeps fits none. run_goes S J s pages all keeps fits none.3.3
