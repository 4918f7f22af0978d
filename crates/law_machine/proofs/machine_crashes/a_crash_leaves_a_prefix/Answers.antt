use Rattle.law_machine.proofs.machine_crashes.a_crash_leaves_a_prefix.Goals as goal
use Rattle.law_machine.proofs.Crash.{leaves_prefix}

pub returns : goal.returns
returns c = λ S F s mask shape format sound. leaves_prefix S F shape format s sound mask
