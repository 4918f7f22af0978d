use Rattle.law_machine.proofs.machine_crashes.any_moment_of_an_event.Goals as goal
use Rattle.law_machine.proofs.Keeps.{steps}
use Rattle.law_machine.proofs.Crash.{leaves_prefix}

pub returns : goal.returns
returns c = λ S F s t event reply mask shape format sound bounded step. (
  leaves_prefix S F shape format s sound mask,
  leaves_prefix S F shape format t (steps S F shape format s t event reply sound bounded step).0 mask,
)
