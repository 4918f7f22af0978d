use Rattle.std.proofs.Common.{refl}
use Rattle.cs_disk.specs.Disk.{seen}
use Rattle.cs_index.specs.State.{id_number}
use Rattle.cs_core.proofs.Known.{known_read}
use Rattle.cs_core.proofs.Looking.{core_read, crash_read, newest_roomed, size_told}
use Rattle.cs_core.proofs.cores.Core.size_of.Goals as goal

pub invariant_of-self : goal.invariant_of-self
invariant_of-self g c = known_read g.D.PageDisk c.self.invariant c.size_of.new.disk c.size_of.ensures.disk
    (core_read g.D.PageDisk c.self.invariant.core c.size_of.new.disk c.size_of.ensures.disk)

pub returns-clause-answer : goal.returns-clause-answer
returns-clause-answer g c = rw (← c.self.view_is) (λ honest s is.
    size_told g.D.PageDisk.state c.self.inside.store (id_number c.args.id) c.size_of.result s is refl (c.size_of.ensures.size honest))

pub returns-clause-crash : goal.returns-clause-crash
returns-clause-crash g c = rw (← c.self.view_is) (λ honest.
    crash_read g.D.PageDisk c.self.invariant.core c.size_of.new.disk c.size_of.ensures.disk c.extent_count.ensures.whole honest (g.met.D.PageDisk.sized c.self.inside.disk honest) (λ image since. g.met.D.PageDisk.only_now c.self.inside.disk image honest since))

pub returns-clause-headers : goal.returns-clause-headers
returns-clause-headers g c = rw (← c.self.view_is) (λ honest view are.
    c.size_of.ensures.headers honest view (newest_roomed c.self.inside.store.graph 0 (seen (g.D.PageDisk.state c.self.inside.disk)) view are))
