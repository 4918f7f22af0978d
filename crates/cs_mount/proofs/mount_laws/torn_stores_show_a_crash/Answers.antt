use Rattle.cs_twin.proofs.Mixing.{tear_spoils}
use Rattle.cs_mount.specs.StorePairs.{store_pairs}
use Rattle.cs_mount.proofs.Unpaired.{torn_store_shows}
use Rattle.cs_mount.proofs.mount_laws.torn_stores_show_a_crash.Goals as goal

pub returns : goal.returns
returns c = λ V d s image g twins sized newer known once tear. torn_store_shows d g twins V s image sized newer (tear_spoils V (store_pairs d) s image newer known once tear)
