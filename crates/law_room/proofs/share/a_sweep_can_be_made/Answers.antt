use Rattle.law_room.proofs.share.a_sweep_can_be_made.Goals as goal
use Rattle.law_room.proofs.Whole.{sweep_there}

pub returns : goal.returns
returns c = λ S J s e newest pages all keeps some none chunks fits.
    sweep_there S J s e newest pages all keeps none chunks fits
