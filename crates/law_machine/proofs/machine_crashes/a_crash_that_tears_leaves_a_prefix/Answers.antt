use Rattle.law_machine.proofs.machine_crashes.a_crash_that_tears_leaves_a_prefix.Goals as goal
use Rattle.law_machine.specs.Open.{opened_state}
use Rattle.law_machine.proofs.Crash.{leaves_torn}
use Rattle.law_machine.proofs.Keeps.{histories, steps}
use Rattle.law_machine.proofs.Opens.{opens_bounded, opens_sound}

pub returns : goal.returns
returns c = record {
  state = λ S F s mask shape format sound. leaves_torn S F shape format s sound mask;
  moment = λ S F s t event reply mask shape format sound bounded step. (
    leaves_torn S F shape format s sound mask,
    leaves_torn S F shape format t (steps S F shape format s t event reply sound bounded step).0 mask,
  );
  history = λ S F img n m gives history t mask shape format run.
      leaves_torn S F shape format t
      (histories S F shape format (opened_state S F img n m gives) t history
      (opens_sound S F shape img n m gives) (opens_bounded S F shape img n m gives) run).0 mask;
}
