use Rattle.law_machine.proofs.recovery.what_was_there_at_open_stays.Goals as goal
use Rattle.std.proofs.Common.{false}
use Rattle.law_machine.proofs.Parts.{not_apart}
use Rattle.law_machine.proofs.Frozen.{as_at_open, damage_stays, new_undamaged_by, within_now}

pub returns : goal.returns
returns c = record {
  pages = λ S F s e i shape sound fz inside. as_at_open S F shape s sound e i fz inside;
  damage = λ S F s l f shape sound is pass. damage_stays S F shape s sound l f is pass;
  within = λ S F s l bs sound reads. within_now S F s sound l bs reads;
  appended = λ S F s t purpose kind payload l f shape sound a.
      new_undamaged_by S F s sound false not_apart t purpose kind payload l f a;
}
