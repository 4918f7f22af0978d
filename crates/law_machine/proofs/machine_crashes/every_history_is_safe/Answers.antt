use Rattle.law_machine.proofs.machine_crashes.every_history_is_safe.Goals as goal
use Rattle.law_machine.specs.Open.{opened_state}
use Rattle.law_machine.proofs.Keeps.{histories}
use Rattle.law_machine.proofs.Opens.{opens_sound, opens_bounded}
use Rattle.law_machine.proofs.Crash.{leaves_prefix}

pub returns : goal.returns
returns c = record {
  sound = λ S F img n m gives shape. (opens_sound S F shape img n m gives, opens_bounded S F shape img n m gives);
  prefix = λ S F img n m gives history t mask shape format run.
      leaves_prefix S F shape format t
      (histories S F shape format (opened_state S F img n m gives) t history
      (opens_sound S F shape img n m gives) (opens_bounded S F shape img n m gives) run).0 mask;
}
