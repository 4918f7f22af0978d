use Rattle.cs_mount.specs.Hidden.{hidden_at}
use Rattle.cs_mount.proofs.Hiding.{hidden_stays}
use Rattle.cs_mount.proofs.Repaging.{elapses_repaged, flush_repaged, repages_kept, whole_repaged}
use Rattle.cs_mount.proofs.chosen.ChosenPageDisk.flush.Goals as goal

pub invariant_of-self : goal.invariant_of-self
invariant_of-self g c =
    let self = c.args.self.now in
    let f = hidden_at self.hidden.items in
    let s = g.D.PageDisk.state c.flush.new.self in
    record { shows = repages_kept f s; whole = λ h. whole_repaged f s (hidden_stays self.hidden.items) (g.met.D.PageDisk.whole c.flush.new.self h) }

pub returns-clause-ok : goal.returns-clause-ok
returns-clause-ok g c = λ h. let self = c.args.self.now in flush_repaged (hidden_at self.hidden.items) (g.D.PageDisk.state self.disk) c.flush.result _ (c.flush.ensures.ok h)

pub returns-clause-time : goal.returns-clause-time
returns-clause-time g c = λ h. let self = c.args.self.now in elapses_repaged (hidden_at self.hidden.items) (g.D.PageDisk.state c.flush.new.self) _ _ _ _ (c.flush.ensures.time h)
