use Rattle.std.proofs.Common.{subst}
use Rattle.cs_extent.specs.State.{IsWhole}
use Rattle.cs_index.specs.State.{id_number}
use Rattle.law_machine.specs.State.{map_now}
use Rattle.cs_store.proofs.Getting.{map_is, there_is}
use Rattle.cs_store.proofs.stores.Store.contains.Goals as goal

pub returns-clause-map : goal.returns-clause-map
returns-clause-map g c = rw (← c.self.view_is) (λ m has honest.
    let s = c.progress.ensures.legal honest in
    there_is c.contains.result (m (id_number c.args.id)) (map_now s.0 (id_number c.args.id))
    (map_is g.D.PageDisk.state c.self.inside.core m s.0 (subst IsWhole c.extents.ensures c.extent_count.ensures.whole) has s.1 (id_number c.args.id))
    (c.contains.ensures.map s.0 s.1))
