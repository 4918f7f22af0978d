use Rattle.law_room.proofs.keeping.every_event_keeps.Goals as goal
use Rattle.law_room.proofs.Given.{delete_keeps, put_keeps}
use Rattle.law_room.proofs.Moving.{moved_keeps}
use Rattle.law_room.proofs.Opening.{abandon_keeps, begin_keeps, end_keeps, open_keeps}
use Rattle.law_room.proofs.Retiring.{retire_keeps, stage_keeps}

pub returns-clause-put : goal.returns-clause-put
returns-clause-put c = λ S J s t id sizes keeps does. put_keeps S J s t id sizes keeps does.0 does.1

pub returns-clause-delete : goal.returns-clause-delete
returns-clause-delete c = λ S J s t id keeps is. rw is (delete_keeps S J s id keeps)

pub returns-clause-stage : goal.returns-clause-stage
returns-clause-stage c = stage_keeps

pub returns-clause-retire : goal.returns-clause-retire
returns-clause-retire c = λ S J s t newest pages all some keeps does.
    retire_keeps S J s t does.0 newest pages all some keeps does.1 does.2 does.3

pub returns-clause-begin_sweep : goal.returns-clause-begin_sweep
returns-clause-begin_sweep c = λ S J s t e keeps does. rw does.3 (begin_keeps S J s e keeps does.0 does.1 does.2)

pub returns-clause-move_one : goal.returns-clause-move_one
returns-clause-move_one c = λ S J s t keeps does. rw does.10 (moved_keeps S J s does.0 does.1 does.2 does.3 does.4 does.5
    keeps does.6 (record { chunks = does.7; left = does.8; goes = does.9 }))

pub returns-clause-abandon : goal.returns-clause-abandon
returns-clause-abandon c = λ S J s t keeps does. rw does.2 (abandon_keeps S J s does.0 keeps does.1)

pub returns-clause-end_of_round : goal.returns-clause-end_of_round
returns-clause-end_of_round c = λ S J s t waiting keeps is. rw is (end_keeps S J s waiting keeps)

pub returns-clause-opening : goal.returns-clause-opening
returns-clause-opening c = λ S J s t r found keeps does. rw does.3 (open_keeps S J s r found keeps does.0 does.1 does.2)
