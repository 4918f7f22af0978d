use Rattle.cs_core.proofs.Unstaged.{staged_agrees}
use Rattle.cs_core.proofs.core_laws.what_may_be_staged_agrees.Goals as goal

pub returns : goal.returns
returns c = λ v s is. staged_agrees v s is
