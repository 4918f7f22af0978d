use Rattle.law_machine.proofs.machine_events.each_member_is_issued_once.Goals as goal
use Rattle.law_machine.proofs.KeptRounds.{issued_once}

pub returns : goal.returns
returns c = λ S F s t m sound does. issued_once S F s t m sound does
