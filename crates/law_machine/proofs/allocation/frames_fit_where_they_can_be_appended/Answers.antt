use Rattle.law_machine.proofs.allocation.frames_fit_where_they_can_be_appended.Goals as goal
use Rattle.std.proofs.Common.{false}
use Rattle.law_machine.proofs.Needs.{fits_exactly}

pub returns : goal.returns
returns c = λ S w purpose frames shape. fits_exactly S shape false w purpose frames
