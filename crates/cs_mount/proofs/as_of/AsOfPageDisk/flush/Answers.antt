use Rattle.cs_mount.specs.Lowered.{lowered_at}
use Rattle.cs_mount.proofs.Aging.{lowered_stays}
use Rattle.cs_mount.proofs.Repaging.{elapses_repaged, flush_repaged, repages_kept, whole_repaged}
use Rattle.cs_mount.proofs.as_of.AsOfPageDisk.flush.Goals as goal

pub invariant_of-self : goal.invariant_of-self
invariant_of-self g c =
    let self = c.args.self.now in
    let f = lowered_at self.geometry self.root in
    let s = g.D.PageDisk.state c.flush.new.self in
    record { lowers = repages_kept f s; whole = λ h. whole_repaged f s (lowered_stays self.geometry self.root) (g.met.D.PageDisk.whole c.flush.new.self h) }

pub returns-clause-ok : goal.returns-clause-ok
returns-clause-ok g c = λ h. let self = c.args.self.now in flush_repaged (lowered_at self.geometry self.root) (g.D.PageDisk.state self.disk) c.flush.result _ (c.flush.ensures.ok h)

pub returns-clause-time : goal.returns-clause-time
returns-clause-time g c = λ h. let self = c.args.self.now in elapses_repaged (lowered_at self.geometry self.root) (g.D.PageDisk.state c.flush.new.self) _ _ _ _ (c.flush.ensures.time h)
