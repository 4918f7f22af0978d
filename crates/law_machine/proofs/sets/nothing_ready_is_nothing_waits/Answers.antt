use Rattle.law_machine.proofs.sets.nothing_ready_is_nothing_waits.Goals as goal
use Rattle.law_machine.proofs.Waiting.{none_waits, none_ready}

pub returns : goal.returns
returns c = λ S F s sound. (none_waits S F s.opened s.world sound.safe, none_ready S F s.opened s.world sound.safe)
