use Rattle.std.proofs.Common.{subst}
use Rattle.cs_disk.specs.Disk.{Leaves}
use Rattle.cs_core.specs.Views.{View}
use Rattle.cs_store.proofs.Running.{Left}
use Rattle.cs_store.proofs.stores.Store.persistent.Goals as goal

pub returns-clause-left : goal.returns-clause-left
returns-clause-left g c =
    subst (λ (v : View g.row.D.Denot). g.D.PageDisk.honest v.disk → Leaves (g.D.PageDisk.state v.disk) (Left v v)) c.self.view_is c.progress.ensures.left
