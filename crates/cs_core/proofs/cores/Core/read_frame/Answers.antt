use Rattle.cs_disk.specs.Disk.{seen}
use Rattle.cs_core.proofs.Known.{known_read}
use Rattle.cs_core.proofs.Looking.{core_read, crash_read, newest_roomed}
use Rattle.cs_core.proofs.cores.Core.read_frame.Goals as goal

pub invariant_of-self : goal.invariant_of-self
invariant_of-self g c = known_read g.D.PageDisk c.self.invariant c.read_frame.new.disk c.read_frame.ensures.disk
    (core_read g.D.PageDisk c.self.invariant.core c.read_frame.new.disk c.read_frame.ensures.disk)

pub returns-clause-payload : goal.returns-clause-payload
returns-clause-payload g c = rw (← c.self.view_is) (λ honest view are.
    c.read_frame.ensures.payload honest view (newest_roomed c.self.inside.store.graph 0 (seen (g.D.PageDisk.state c.self.inside.disk)) view are))

pub returns-clause-read : goal.returns-clause-read
returns-clause-read g c = rw (← c.self.view_is) (λ honest view payload are.
    c.read_frame.ensures.read honest view payload (newest_roomed c.self.inside.store.graph 0 (seen (g.D.PageDisk.state c.self.inside.disk)) view are))

pub returns-clause-fault : goal.returns-clause-fault
returns-clause-fault g c = rw (← c.self.view_is) (λ honest view are.
    c.read_frame.ensures.fault honest view (newest_roomed c.self.inside.store.graph 0 (seen (g.D.PageDisk.state c.self.inside.disk)) view are))

pub returns-clause-crash : goal.returns-clause-crash
returns-clause-crash g c = rw (← c.self.view_is) (λ honest.
    crash_read g.D.PageDisk c.self.invariant.core c.read_frame.new.disk c.read_frame.ensures.disk c.extent_count.ensures.whole honest (g.met.D.PageDisk.sized c.self.inside.disk honest) (λ image since. g.met.D.PageDisk.only_now c.self.inside.disk image honest since))

pub returns-clause-meant : goal.returns-clause-meant
returns-clause-meant g c = rw (← c.self.view_is) c.read_frame.ensures.meant
