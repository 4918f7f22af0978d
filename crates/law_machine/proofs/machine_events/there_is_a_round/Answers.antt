use Rattle.law_machine.proofs.machine_events.there_is_a_round.Goals as goal
use Rattle.law_machine.proofs.Taking.{some_round, some_members}

pub returns : goal.returns
returns c = λ S F s sound.
    let round = some_round S F s.opened s.world sound.safe in
    let members = some_members S F s.opened s.world sound.safe round.0 in
    (round.0, round.1, members.0, members.1, members.2)
