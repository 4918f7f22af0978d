use Rattle.law_machine.proofs.sets.one_list_of_elements.Goals as goal
use Rattle.law_machine.proofs.Lists.{one_list}

pub returns : goal.returns
returns c = λ S F X opened p elements shape right. one_list S F shape X opened p elements right
