use Rattle.law_room.proofs.share.chosen_sweeps_gain.Goals as goal
use Rattle.law_room.proofs.Choosing.{chosen_left, none_left}

pub returns-clause-gain : goal.returns-clause-gain
returns-clause-gain c = λ S J n s t keeps some none swept. chosen_left S J n s t keeps some none swept

pub returns-clause-none : goal.returns-clause-none
returns-clause-none c = λ S J n k s t keeps some large few swept none. none_left S J n k s t keeps some large few swept none
