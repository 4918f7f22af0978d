use Rattle.law_machine.proofs.machine_events.all_is_persistent_at_rest.Goals as goal
use Rattle.law_machine.proofs.Waiting.{all_done}

pub returns : goal.returns
returns c = all_done
