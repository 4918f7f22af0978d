use Rattle.cs_core.specs.Openings.{IsOpened}
use Rattle.cs_mount.proofs.Opened.{opened_by}
use Rattle.cs_store.proofs.Remaking.{if_opened}
use Rattle.cs_store.proofs.options.OpenOptions.open_or_remake.Goals as goal

pub returns-in-Err-clause-new : goal.returns-in-Err-clause-new
returns-in-Err-clause-new g c = rw (← c.self.view_is) c.remake_and_open.ensures.new

pub returns-in-Err-clause-store : goal.returns-in-Err-clause-store
returns-in-Err-clause-store g c = if_opened c.remake_and_open.result
    (λ opened. IsOpened (g.D.PageDisk.honest c.in-Err.disk) opened.opened opened.found opened.store) (λ opened. IsOpened (g.D.PageDisk.honest c.args.disk) opened.opened opened.found opened.store)
    (λ opened is. opened_by (g.D.PageDisk.honest c.in-Err.disk) (g.D.PageDisk.honest c.args.disk) opened.opened opened.found opened.store c.in-Err.ensures.honest.0 is) c.remake_and_open.ensures.store
