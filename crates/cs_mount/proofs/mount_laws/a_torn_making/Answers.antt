use Rattle.cs_mount.proofs.Cleared.{torn_making}
use Rattle.cs_mount.proofs.mount_laws.a_torn_making.Goals as goal

pub returns : goal.returns
returns c = λ d s image g twins sized torn. torn_making d g twins s sized image torn
