use Rattle.cs_mount.proofs.Cleared.{cleared_none, cleared_why}
use Rattle.cs_mount.proofs.mount_laws.a_cleared_disk_holds_no_store.Goals as goal

pub returns-clause-found : goal.returns-clause-found
returns-clause-found c = cleared_none

pub returns-clause-why : goal.returns-clause-why
returns-clause-why c = λ pages image enough sized cleared. cleared_why pages image cleared enough sized
