use Rattle.cs_frame.proofs.MarkLaws.{mark_of_frame, one_digest, one_front}
use Rattle.cs_frame.proofs.format_laws.marks_tell_digests.Goals as goal

pub returns-clause-pages : goal.returns-clause-pages
returns-clause-pages c = λ number other_number kind other_kind pages others payload other a b page other_page same.
    one_digest number other_number kind other_kind pages others payload other a b page other_page same

pub returns-clause-payloads : goal.returns-clause-payloads
returns-clause-payloads c = λ payload other same. one_front payload other same

pub returns-clause-mark : goal.returns-clause-mark
returns-clause-mark c = λ format number kind payload on. mark_of_frame format number kind payload on
