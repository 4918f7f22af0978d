use Rattle.std.proofs.Common.{refl}
use Rattle.cs_index.specs.State.{id_number}
use Rattle.cs_core.proofs.Known.{known_read}
use Rattle.cs_core.proofs.Looking.{core_read, crash_read, read_tells}
use Rattle.cs_core.proofs.cores.Core.read.Goals as goal

pub invariant_of-self : goal.invariant_of-self
invariant_of-self g c = known_read g.D.PageDisk c.self.invariant c.get.new.disk c.get.ensures.disk
    (core_read g.D.PageDisk c.self.invariant.core c.get.new.disk c.get.ensures.disk)

pub returns-clause-answer : goal.returns-clause-answer
returns-clause-answer g c = rw (← c.self.view_is) (λ honest s is.
    read_tells g.D.PageDisk.state c.self.inside.store (id_number c.args.id) c.get.result s is refl (c.get.ensures.step honest) c.get.ensures.absent.1)

pub returns-clause-crash : goal.returns-clause-crash
returns-clause-crash g c = rw (← c.self.view_is) (λ honest.
    crash_read g.D.PageDisk c.self.invariant.core c.get.new.disk c.get.ensures.disk c.extent_count.ensures.whole honest (g.met.D.PageDisk.sized c.self.inside.disk honest) (λ image since. g.met.D.PageDisk.only_now c.self.inside.disk image honest since))

pub returns-clause-meant : goal.returns-clause-meant
returns-clause-meant g c = rw (← c.self.view_is) c.get.ensures.meant
