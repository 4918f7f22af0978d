use Rattle.cs_index.specs.State.{id_number}
use Rattle.cs_core.proofs.Looking.{contained}
use Rattle.cs_core.proofs.cores.Core.contains.Goals as goal

pub returns-clause-map : goal.returns-clause-map
returns-clause-map g c = rw (← c.self.view_is) (λ s is. contained g.D.PageDisk.state (id_number c.args.id) c.is_live.result s is c.is_live.ensures)
