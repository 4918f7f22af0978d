use Rattle.cs_mount.proofs.Cleared.{crash_of_laying}
use Rattle.cs_mount.proofs.mount_laws.a_crash_of_a_making.Goals as goal

pub returns : goal.returns
returns c = λ d s image g twins sized left. crash_of_laying d g twins s sized image left
