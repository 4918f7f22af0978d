use Rattle.std.proofs.Common.{subst, sym}
use Rattle.cs_core.specs.Openings.{IsOpened}
use Rattle.cs_mount.proofs.Opened.{opened_by}
use Rattle.cs_store.proofs.options.OpenOptions.remake_and_open.Goals as goal

pub returns-in-Ok-open_to_write-clause-store : goal.returns-in-Ok-open_to_write-clause-store
returns-in-Ok-open_to_write-clause-store g c =
    let core = c.in-Ok-open_to_write.store in
    subst (λ v. IsOpened (g.D.PageDisk.honest c.args.disk) v.opened v.found v.store) (sym c.noted.ensures)
    (opened_by (g.D.PageDisk.honest c.write_made.new.disk) (g.D.PageDisk.honest c.args.disk) core.opened core.found core.store c.write_made.ensures.honest.0 c.in-Ok-open_to_write.ensures.store)
