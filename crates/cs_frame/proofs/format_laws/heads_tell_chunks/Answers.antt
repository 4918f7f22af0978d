use Rattle.std.proofs.Common.{refl}
use Rattle.cs_frame.proofs.HeadLaws.{length-chunk, one_piece}
use Rattle.cs_frame.proofs.HeadTelling.{one_head}
use Rattle.cs_frame.proofs.format_laws.heads_tell_chunks.Goals as goal

pub returns-clause-size : goal.returns-clause-size
returns-clause-size c = λ format id number count command piece fits. length-chunk format id number count command piece fits

pub returns-clause-piece : goal.returns-clause-piece
returns-clause-piece c = λ format id number count command piece fits. one_piece format id number count command piece fits

pub returns-clause-one_head : goal.returns-clause-one_head
returns-clause-one_head c = one_head

pub returns-clause-none : goal.returns-clause-none
returns-clause-none c = λ id number count command piece payload. (refl, refl)
