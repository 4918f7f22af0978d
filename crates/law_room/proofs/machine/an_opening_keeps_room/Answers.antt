use Rattle.law_room.proofs.machine.an_opening_keeps_room.Goals as goal
use Rattle.law_room.proofs.OpenedRoots.{opened_roomy}

pub returns : goal.returns
returns c = λ S F img n m gives p shape apart is young. opened_roomy S F apart img n m gives p is shape young
