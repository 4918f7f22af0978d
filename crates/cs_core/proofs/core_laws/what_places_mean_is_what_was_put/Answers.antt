use Rattle.cs_core.proofs.Saying.{told_is_put}
use Rattle.cs_core.proofs.core_laws.what_places_mean_is_what_was_put.Goals as goal

pub returns : goal.returns
returns g c = λ v id bytes told core on put meant. told_is_put v.store id bytes told on (core.puts id bytes put) meant
