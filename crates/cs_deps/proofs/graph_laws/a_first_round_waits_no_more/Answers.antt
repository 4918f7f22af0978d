use Rattle.cs_deps.proofs.AllHeights.{all_have_heights}
use Rattle.cs_deps.proofs.Extended.{first_gone}
use Rattle.cs_deps.proofs.graph_laws.a_first_round_waits_no_more.Goals as goal

pub returns : goal.returns
returns c = λ g h more round x begun ended longer first height waits. first_gone g h begun ended (all_have_heights g begun) more longer round first x height waits
