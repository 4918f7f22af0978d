use Rattle.law_machine.proofs.machine_crashes.torn_pages_are_not_read.Goals as goal
use Rattle.law_machine.proofs.Crash.{same_prefix}
use Rattle.law_machine.proofs.Torn.{not_named}

pub returns : goal.returns
returns c = record {
  named = λ S F s r h x sound is low high covers member. not_named S F s sound r is low high h covers x member;
  same = λ S F s mask img n shape format sound torn. same_prefix S F shape format s sound mask img n torn;
}
