use Rattle.cs_deps.proofs.AllHeights.{all_have_heights}
use Rattle.cs_deps.proofs.Extended.{round_lowers}
use Rattle.cs_deps.proofs.graph_laws.a_round_lowers_heights.Goals as goal

pub returns : goal.returns
returns c = λ g h more round x n begun ended longer first height waits. round_lowers g h begun ended (all_have_heights g begun) more longer round first x n height waits
