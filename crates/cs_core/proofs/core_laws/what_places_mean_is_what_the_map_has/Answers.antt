use Rattle.cs_core.proofs.Meant.{told_is_there}
use Rattle.cs_core.proofs.core_laws.what_places_mean_is_what_the_map_has.Goals as goal

pub returns : goal.returns
returns c = λ v s id bytes told is on there meant. told_is_there v s id bytes told is on there meant
