use Rattle.std.proofs.Common.{subst}
use Rattle.cs_deps.specs.State.{IsWhole as IsWholeGraph}
use Rattle.cs_extent.specs.State.{IsWhole, shape}
use Rattle.cs_core.specs.Views.{IsCore, IsFound, View}
use Rattle.cs_store.proofs.Getting.{map_is}
use Rattle.cs_store.proofs.Maps.{some_map}
use Rattle.cs_store.proofs.stores.Store.found.Goals as goal

pub returns-clause-map : goal.returns-clause-map
returns-clause-map g c = rw (← c.self.view_is) (λ honest. some_map c.self.inside.core (subst (IsFound (shape c.self.inside.core.store.extents) c.self.inside.core.opened) c.opened.ensures.found (c.opened.ensures.image honest)))

pub returns-clause-machine : goal.returns-clause-machine
returns-clause-machine g c = rw (← c.self.view_is) (λ m has s is id. map_is g.D.PageDisk.state c.self.inside.core m s (subst IsWhole c.extents.ensures c.extent_count.ensures.whole) has is id)

pub returns-clause-core : goal.returns-clause-core
returns-clause-core g c = subst (λ (v : View g.row.D.Denot). IsCore g.D.PageDisk v) c.self.view_is c.progress.ensures.core

pub returns-clause-whole : goal.returns-clause-whole
returns-clause-whole g c = subst (λ (v : View g.row.D.Denot). IsWhole v.store.extents) c.self.view_is c.progress.ensures.whole

pub returns-clause-graph : goal.returns-clause-graph
returns-clause-graph g c = subst (λ (v : View g.row.D.Denot). IsWholeGraph v.store.graph) c.self.view_is c.progress.ensures.graph
