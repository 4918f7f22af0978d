use Rattle.cs_disk.specs.Disk.{latest}
use Rattle.cs_mount.proofs.PagesRemade.{by_all, latest_page}
use Rattle.cs_mount.proofs.Repaging.{elapses_repaged, flush_repaged, repages_kept, whole_repaged}
use Rattle.cs_mount.proofs.remade.RemadePageDisk.flush.Goals as goal

pub invariant_of-self : goal.invariant_of-self
invariant_of-self g c =
    let self = c.args.self.now in
    let f = latest self.pages.items in
    let s = g.D.PageDisk.state c.flush.new.self in
    record { sizes = self.sizes; bytes = self.bytes; shows = repages_kept f s; whole = λ h. whole_repaged f s (λ p bytes is. latest_page self.pages.items p bytes (by_all self.pages.items self.sizes self.bytes) is) (g.met.D.PageDisk.whole c.flush.new.self h) }

pub returns-clause-ok : goal.returns-clause-ok
returns-clause-ok g c = λ h. let self = c.args.self.now in flush_repaged (latest self.pages.items) (g.D.PageDisk.state self.disk) c.flush.result _ (c.flush.ensures.ok h)

pub returns-clause-time : goal.returns-clause-time
returns-clause-time g c = λ h. let self = c.args.self.now in elapses_repaged (latest self.pages.items) (g.D.PageDisk.state c.flush.new.self) _ _ _ _ (c.flush.ensures.time h)
