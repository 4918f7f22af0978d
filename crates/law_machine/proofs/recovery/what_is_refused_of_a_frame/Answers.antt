use Rattle.law_machine.proofs.recovery.what_is_refused_of_a_frame.Goals as goal
use Rattle.law_machine.proofs.Meant.{none_for, other_for, short_for}

pub returns : goal.returns
returns c = record {
  another = λ S F img e i count kind payload m format. other_for S F format img e i count kind payload m;
  short = λ S F img e i count kind payload m format. short_for S F format img e i count kind payload m;
  none = λ S F img e i count kind payload m format. none_for S F format img e i count kind payload m;
}
