use Rattle.law_room.proofs.share.pairs_of_sweeps_gain.Goals as goal
use Rattle.law_room.proofs.Sharing.{every_way}

pub returns : goal.returns
returns c = λ S J n s t keeps some none large few swept. every_way S J n s t keeps some none large few swept
