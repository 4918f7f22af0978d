use Rattle.cs_disk.specs.Disk.{seen}
use Rattle.cs_core.proofs.Looking.{core_read, crash_read, newest_roomed}
use Rattle.cs_core.proofs.cores.Core.read_length.Goals as goal

pub read_length-requires-clause-known : goal.read_length-requires-clause-known
read_length-requires-clause-known g c = c.self.invariant.known

pub invariant_of-self : goal.invariant_of-self
invariant_of-self g c = record {
  core = core_read g.D.PageDisk c.self.invariant.core c.read_length.new.disk c.read_length.ensures.disk;
  known = c.read_length.ensures.known;
}

pub returns-clause-told : goal.returns-clause-told
returns-clause-told g c = rw (← c.self.view_is) (λ honest view are.
    c.read_length.ensures.told honest view (newest_roomed c.self.inside.store.graph 0 (seen (g.D.PageDisk.state c.self.inside.disk)) view are))

pub returns-clause-read : goal.returns-clause-read
returns-clause-read g c = rw (← c.self.view_is) (λ honest view payload are.
    c.read_length.ensures.read honest view payload (newest_roomed c.self.inside.store.graph 0 (seen (g.D.PageDisk.state c.self.inside.disk)) view are))

pub returns-clause-header : goal.returns-clause-header
returns-clause-header g c = rw (← c.self.view_is) (λ honest view are.
    c.read_length.ensures.header honest view (newest_roomed c.self.inside.store.graph 0 (seen (g.D.PageDisk.state c.self.inside.disk)) view are))

pub returns-clause-fault : goal.returns-clause-fault
returns-clause-fault g c = rw (← c.self.view_is) (λ honest view are.
    c.read_length.ensures.fault honest view (newest_roomed c.self.inside.store.graph 0 (seen (g.D.PageDisk.state c.self.inside.disk)) view are))

pub returns-clause-crash : goal.returns-clause-crash
returns-clause-crash g c = rw (← c.self.view_is) (λ honest.
    crash_read g.D.PageDisk c.self.invariant.core c.read_length.new.disk c.read_length.ensures.disk c.extent_count.ensures.whole honest (g.met.D.PageDisk.sized c.self.inside.disk honest) (λ image since. g.met.D.PageDisk.only_now c.self.inside.disk image honest since))
