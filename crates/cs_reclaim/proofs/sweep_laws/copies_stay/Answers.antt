use Rattle.cs_reclaim.proofs.Copying.{up_to_none, up_to_put, up_to_same, up_to_stays}
use Rattle.cs_reclaim.proofs.sweep_laws.copies_stay.Goals as goal

pub returns : goal.returns
returns c = record { nothing = up_to_none; lived = up_to_stays; put = up_to_put; map = up_to_same }
