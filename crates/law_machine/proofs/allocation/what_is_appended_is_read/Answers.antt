use Rattle.law_machine.proofs.allocation.what_is_appended_is_read.Goals as goal
use Rattle.std.proofs.Common.{false}
use Rattle.law_machine.proofs.Parts.{not_apart}
use Rattle.law_machine.proofs.Reading.{frame_sound_by, frame_read_by, read_before_by, chunks_read_by}

pub returns : goal.returns
returns c = record {
  sound = λ S F s t purpose kind payload l. frame_sound_by S F false s t purpose kind payload l not_apart;
  frame = λ S F s t purpose kind payload l. frame_read_by S F false s t purpose kind payload l not_apart;
  before = λ S F s t purpose kind old payload bytes l k. read_before_by S F false s t purpose kind old payload bytes l k not_apart;
  chunks = λ S F s t cs ls. chunks_read_by S F false s t cs ls not_apart;
}
