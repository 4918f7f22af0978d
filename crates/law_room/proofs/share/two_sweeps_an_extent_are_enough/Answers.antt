use Rattle.law_room.proofs.share.two_sweeps_an_extent_are_enough.Goals as goal
use Rattle.law_room.proofs.Sharing.{reached}

pub returns : goal.returns
returns c = λ S J n s keeps some none large few. reached S J n s keeps some none large few
