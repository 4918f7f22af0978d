use Rattle.law_room.proofs.brim.a_put_finds_room_up_to_the_brim.Goals as goal
use Rattle.law_room.proofs.BrimPuts.{beside_all, one_fits_beside, put_anywhere, put_there}
use Rattle.law_room.specs.Rooms.{all_pages}
use Rattle.std.proofs.Common.{[], ◌∷◌}

pub returns-clause-beside : goal.returns-clause-beside
returns-clause-beside c = put_there

pub returns-clause-there : goal.returns-clause-there
returns-clause-there c = λ S J s id sizes keeps none nothing fit.
    put_there S J s id sizes keeps none (beside_all S J s sizes nothing fit)

pub returns-clause-one : goal.returns-clause-one
returns-clause-one c = λ S J s id k keeps none nothing few. put_there S J s id (k ∷ []) keeps none
    (beside_all S J s (k ∷ []) nothing (one_fits_beside S J (all_pages s.chunks) k few))

pub returns-clause-wherever : goal.returns-clause-wherever
returns-clause-wherever c = put_anywhere
