use Rattle.law_machine.proofs.recovery.named_pages_are_not_written.Goals as goal
use Rattle.law_machine.proofs.NamedPages.{frame_named, not_in_round, written_or_waits}

pub returns : goal.returns
returns c = record {
  writes = λ S F s r h x sound is last covers has at. written_or_waits S F s sound r h is last covers x has at;
  round = λ S F s r h x sound is last covers member. not_in_round S F s sound r h is last covers x member;
  frames = frame_named;
}
