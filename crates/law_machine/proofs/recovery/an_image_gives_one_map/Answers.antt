use Rattle.law_machine.proofs.recovery.an_image_gives_one_map.Goals as goal
use Rattle.law_machine.proofs.Unique.{one_recovery}

pub returns : goal.returns
returns c = λ S F img n k m o shape format a b. one_recovery S F shape format img n k m o a b
