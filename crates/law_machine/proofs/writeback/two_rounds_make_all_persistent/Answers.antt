use Rattle.law_machine.proofs.writeback.two_rounds_make_all_persistent.Goals as goal
use Rattle.law_machine.proofs.TwoRounds.{first_takes, second_takes, none_left}

pub returns-clause-first : goal.returns-clause-first
returns-clause-first c = λ S F s R element later sound none is. first_takes S F s.opened s.world sound.safe later none R is
    element

pub returns-clause-second : goal.returns-clause-second
returns-clause-second c = λ S F s R Q later sound none is next. second_takes S F s.opened s.world sound.safe later none R is Q
    next

pub returns-clause-all : goal.returns-clause-all
returns-clause-all c = λ S F s R Q later sound none is next. none_left S F s.opened s.world sound.safe later none R is Q next
