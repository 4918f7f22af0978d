use Rattle.cs_deps.proofs.AllHeights.{all_have_heights}
use Rattle.cs_deps.proofs.graph_laws.each_waiting_element_has_a_height.Goals as goal

pub returns : goal.returns
returns c = λ g x staged waits. all_have_heights g staged x waits
