use Rattle.std.proofs.Common.{refl, subst, sym}
use Rattle.cs_extent.specs.State.{IsWhole, State as ExtentsState}
use Rattle.cs_reader.specs.Loads.{index_at}
use Rattle.cs_index.specs.State.{newest_first}
use Rattle.law_machine.specs.Geometry.{most_weight_in}
use Rattle.cs_core.specs.Openings.{AreExtentsOpened}
use Rattle.cs_reader.specs.Openings.{AreLocatedBy}
use Rattle.cs_core.specs.Stored.{IsKept}
use Rattle.cs_core.proofs.Loading.{are_opened, is_loaded, kept_opened, live_in, loaded_as}
use Rattle.cs_reader.proofs.Located.{extents_by, runs_there}
use Rattle.cs_core.proofs.core_openings.load_store.Goals as goal

pub ready_extents-requires-clause-places : goal.ready_extents-requires-clause-places
ready_extents-requires-clause-places c = runs_there c.args.extents c.in-Ok.made.0 c.args.runs.items _ _ c.in-Ok.ensures.loaded c.requires.places

pub invariant_of-result : goal.invariant_of-result
invariant_of-result c =
    let x : ExtentsState = c.args.extents in
    let y : ExtentsState = c.ready_extents.new.extents in
    let graph = c.requires.graph in
    let root = c.args.root.now.version in
    let same = extents_by x x.format x.pages x.sections x.written graph.0 c.requires.extents graph.1 in
    let is = loaded_as root c.args.root.now.commands _ _ c.args.runs.items c.args.graph x y c.in-Ok.made.0 c.none-sweeps.result c.in-Ok.made.1.items
    refl refl c.in-Ok.ensures.loaded c.none-sweeps.ensures c.in-Ok.ensures.noted c.ready_extents.ensures graph.0 graph.2 in
    let opened = are_opened root c.args.root.now.commands _ _ c.args.runs.items c.args.graph x y c.in-Ok.made.0 c.none-sweeps.result c.in-Ok.made.1.items
    refl refl c.in-Ok.ensures.loaded c.none-sweeps.ensures c.in-Ok.ensures.noted c.ready_extents.ensures in
    subst IsKept (sym is)
    (kept_opened x.format graph.0 x.pages x.written root c.args.root.now.commands c.args.runs.items y (subst IsWhole same c.extent_count.ensures.whole)
    (subst (λ (z : ExtentsState). AreExtentsOpened z (index_at (newest_first c.args.runs.items) x.format (most_weight_in x.format x.pages)) root y) same opened)
    c.requires.commands c.requires.few (subst (λ (z : ExtentsState). AreLocatedBy z c.args.runs.items) same c.in-Ok.ensures.located))

pub returns-clause-made : goal.returns-clause-made
returns-clause-made c =
    is_loaded c.args.root.now.version c.args.root.now.commands _ _ c.args.runs.items c.args.graph c.args.extents c.ready_extents.new.extents c.in-Ok.made.0 c.none-sweeps.result c.in-Ok.made.1.items
    refl refl c.in-Ok.ensures.loaded c.none-sweeps.ensures c.in-Ok.ensures.noted c.ready_extents.ensures

pub returns-clause-live : goal.returns-clause-live
returns-clause-live c = live_in c.in-Ok.made.0 c.args.runs.items _ _ c.live_count-live.result c.in-Ok.ensures.loaded c.live_count-live.ensures
