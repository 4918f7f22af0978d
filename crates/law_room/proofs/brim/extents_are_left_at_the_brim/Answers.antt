use Rattle.law_room.proofs.brim.extents_are_left_at_the_brim.Goals as goal
use Rattle.law_room.proofs.BrimKept.{left_then}
use Rattle.law_room.proofs.BrimShare.{left_by_greatest}
use Rattle.law_room.proofs.Sharing.{none_fits}

pub returns-clause-greatest : goal.returns-clause-greatest
returns-clause-greatest c = λ S J n most s keeps large none few. left_by_greatest S J n most s keeps none few large

pub returns-clause-swept : goal.returns-clause-swept
returns-clause-swept c = λ S J n most k s t some keeps rests large few swept none.
    left_then S J n most k s t some keeps rests large few swept none

pub returns-clause-half : goal.returns-clause-half
returns-clause-half c = λ S J n s large none few. none_fits S J n s large few none
