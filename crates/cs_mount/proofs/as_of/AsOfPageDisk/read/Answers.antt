use Rattle.std.proofs.Common.{arith}
use Rattle.cs_mount.specs.Lowered.{lowered_at}
use Rattle.cs_mount.proofs.Aging.{lowered_stays}
use Rattle.cs_mount.proofs.Repaging.{elapses_repaged, reads_repaged, repages_kept, whole_repaged}
use Rattle.cs_mount.proofs.as_of.AsOfPageDisk.read.Goals as goal

pub invariant_of-self : goal.invariant_of-self
invariant_of-self g c =
    let self = c.args.self.now in
    let f = lowered_at self.geometry self.root in
    let s = g.D.PageDisk.state c.read.new.self in
    record { lowers = repages_kept f s; whole = λ h. whole_repaged f s (lowered_stays self.geometry self.root) (g.met.D.PageDisk.whole c.read.new.self h) }

pub returns-in-Ok-clause-bytes : goal.returns-in-Ok-clause-bytes
returns-in-Ok-clause-bytes g c = λ h.
    let self = c.args.self.now in
    let sized = g.met.D.PageDisk.sized self.disk h in
    reads_repaged (lowered_at self.geometry self.root) (g.D.PageDisk.state self.disk) c.lower_page.result c.args.number c.read.new.buffer c.lower_page.new.bytes (omega (arith, c.requires, sized)) (c.in-Ok.ensures.bytes h) c.lower_page.ensures.lowered

pub returns-in-Ok-clause-time : goal.returns-in-Ok-clause-time
returns-in-Ok-clause-time g c = λ h. let self = c.args.self.now in elapses_repaged (lowered_at self.geometry self.root) (g.D.PageDisk.state c.read.new.self) _ _ _ _ (c.read.ensures.time h)
