use Rattle.law_machine.proofs.machine_events.a_stage_leaves_room_for_puts.Goals as goal
use Rattle.law_machine.proofs.Dead.{few_dead}
use Rattle.law_machine.proofs.Heavy.{light_put}

pub returns : goal.returns
returns c = record {
  stage = λ S F s t v shape by_size some does. few_dead S F shape by_size s t v some does;
  put = λ S F s id bytes chunks locators shape dead chunked same living refused.
      light_put S F shape s id bytes chunks locators dead chunked same living refused;
}
