use Rattle.cs_twin.proofs.Mixing.{fences_show}
use Rattle.cs_twin.proofs.tears.a_torn_fence_shows_the_same.Goals as goal

pub returns : goal.returns
returns c = fences_show
