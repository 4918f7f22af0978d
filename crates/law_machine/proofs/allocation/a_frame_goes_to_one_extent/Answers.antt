use Rattle.law_machine.proofs.allocation.a_frame_goes_to_one_extent.Goals as goal
use Rattle.law_machine.proofs.Places.{placed_one}

pub returns : goal.returns
returns c = placed_one
