use Rattle.cs_twin.proofs.Fencing.{fenced_left}
use Rattle.cs_twin.proofs.tears.fenced_halves_stay_known.Goals as goal

pub returns : goal.returns
returns c = fenced_left
