use Rattle.std.proofs.Common.{List, ap, arith, ◌∙◌}
use Rattle.cs_disk.specs.Disk.{Write, latest}
use Rattle.cs_mount.proofs.PagesRemade.{by_all, latest_page}
use Rattle.cs_mount.proofs.Repaging.{elapses_repaged, read_repaged, repages_kept, whole_repaged}
use Rattle.cs_mount.proofs.remade.RemadePageDisk.read.Goals as goal

pub invariant_of-self : goal.invariant_of-self
invariant_of-self g c =
    let self = c.args.self.now in
    let f = latest self.pages.items in
    let s = g.D.PageDisk.state c.read.new.self in
    record { sizes = self.sizes; bytes = self.bytes; shows = repages_kept f s; whole = λ h. whole_repaged f s (λ p bytes is. latest_page self.pages.items p bytes (by_all self.pages.items self.sizes self.bytes) is) (g.met.D.PageDisk.whole c.read.new.self h) }

pub returns-in-Ok-clause-bytes : goal.returns-in-Ok-clause-bytes
returns-in-Ok-clause-bytes g c = λ h.
    let self = c.args.self.now in
    let sized = g.met.D.PageDisk.sized self.disk h in
    read_repaged (latest self.pages.items) (g.D.PageDisk.state self.disk) c.args.number c.read.new.buffer c.remake_page.new.bytes (omega (arith, c.requires, sized)) (c.in-Ok.ensures.bytes h) (c.remake_page.ensures ∙ ap (λ (ws : List Write). latest ws c.args.number c.read.new.buffer) c.deref.ensures.value)

pub returns-in-Ok-clause-time : goal.returns-in-Ok-clause-time
returns-in-Ok-clause-time g c = λ h. let self = c.args.self.now in elapses_repaged (latest self.pages.items) (g.D.PageDisk.state c.read.new.self) _ _ _ _ (c.read.ensures.time h)
