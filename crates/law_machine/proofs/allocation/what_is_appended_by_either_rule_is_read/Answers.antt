use Rattle.law_machine.proofs.allocation.what_is_appended_by_either_rule_is_read.Goals as goal
use Rattle.law_machine.proofs.Frozen.{new_undamaged_by}
use Rattle.law_machine.proofs.Reading.{frame_sound_by, frame_read_by, read_before_by, chunks_read_by}

pub returns : goal.returns
returns c = record {
  sound = frame_sound_by;
  frame = frame_read_by;
  before = read_before_by;
  chunks = chunks_read_by;
  undamaged = λ S F apart s t purpose kind payload l f by sound a. new_undamaged_by S F s sound apart by t purpose kind payload l f a;
}
