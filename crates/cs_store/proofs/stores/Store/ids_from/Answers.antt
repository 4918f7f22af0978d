use Rattle.std.proofs.Common.{◌≢◌, IfOk, List, None, [], map, subst}
use Rattle.std.proofs.lemmas.Result.{IfOk-weaker}
use Rattle.cs_extent.specs.State.{IsWhole}
use Rattle.cs_index.specs.State.{id_number, index_of}
use Rattle.law_machine.specs.Element.{Entry}
use Rattle.law_machine.specs.Index.{live_at}
use Rattle.cs_inspect.specs.Listings.{AreFirst}
use Rattle.cs_store.proofs.Listing.{first_alike, index_shown, is_there}
use Rattle.cs_store.proofs.stores.Store.ids_from.Goals as goal

pub returns-clause-index : goal.returns-clause-index
returns-clause-index g c = rw (← c.self.view_is)
    (subst (λ (es : List Entry). IfOk c.ids_from.result (λ ids. AreFirst (λ id. live_at es id ≢ []) (id_number c.args.from) c.args.most (map id_number ids.items)))
    (index_shown c.self.inside.core.store.index c.index.result.now c.index.ensures.index) c.ids_from.ensures)

pub returns-clause-map : goal.returns-clause-map
returns-clause-map g c = rw (← c.self.view_is) (λ m has honest.
    let s = c.progress.ensures.legal honest in
    let there = is_there g.D.PageDisk.state c.self.inside.core m s.0 (subst IsWhole c.extents.ensures c.extent_count.ensures.whole) has s.1 in
    IfOk-weaker c.ids_from.result _ _
    (λ ids are. first_alike (λ id. live_at (index_of c.self.inside.core.store.index) id ≢ []) (λ id. m id ≢ None) there (id_number c.args.from) c.args.most (map id_number ids.items) are)
    (subst (λ (es : List Entry). IfOk c.ids_from.result (λ ids. AreFirst (λ id. live_at es id ≢ []) (id_number c.args.from) c.args.most (map id_number ids.items)))
    (index_shown c.self.inside.core.store.index c.index.result.now c.index.ensures.index) c.ids_from.ensures))
