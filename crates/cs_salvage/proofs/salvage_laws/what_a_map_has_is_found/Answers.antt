use Rattle.cs_salvage.proofs.Living.{map_found}
use Rattle.cs_salvage.proofs.salvage_laws.what_a_map_has_is_found.Goals as goal

pub returns : goal.returns
returns c = λ g image n m id bytes known r has. map_found g image n m r known id bytes has
