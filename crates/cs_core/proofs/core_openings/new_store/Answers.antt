use Rattle.std.proofs.Common.{subst, sym}
use Rattle.cs_core.specs.Stored.{IsKept}
use Rattle.cs_core.proofs.Starting.{kept_new, new_extents_are, new_graph_is, new_is, new_sections}
use Rattle.cs_core.proofs.core_openings.new_store.Goals as goal

pub of-requires : goal.of-requires
of-requires c = new_sections c.args.geometry.format c.args.geometry.extents c.args.geometry.pages c.args.geometry.sections c.args.sections.now c.requires

pub new_graph-requires-clause-sections : goal.new_graph-requires-clause-sections
new_graph-requires-clause-sections c = new_sections c.args.geometry.format c.args.geometry.extents c.args.geometry.pages c.args.geometry.sections c.args.sections.now c.requires

pub invariant_of-result : goal.invariant_of-result
invariant_of-result c =
    let g = c.args.geometry in
    let made = new_is g.format g.extents g.pages g.sections c.in_ok-graph.graph c.in_ok-extents.extents c.in_ok-index.index c.none-sweeps.result c.in_ok-roots.roots.items
    (new_graph_is g.format g.extents g.pages g.sections c.args.sections.now c.requires c.in_ok-graph.graph c.in_ok-graph.ensures)
    (new_extents_are g.format g.extents g.pages g.sections c.args.sections.now c.requires c.in_ok-extents.extents c.in_ok-extents.ensures)
    c.in_ok-index.ensures c.none-sweeps.ensures c.in_ok-roots.ensures in
    subst IsKept (sym made) (kept_new g.format g.extents g.pages g.sections c.requires.geometry.fewest_sections)

pub returns : goal.returns
returns c =
    let g = c.args.geometry in
    new_is g.format g.extents g.pages g.sections c.in_ok-graph.graph c.in_ok-extents.extents c.in_ok-index.index c.none-sweeps.result c.in_ok-roots.roots.items
    (new_graph_is g.format g.extents g.pages g.sections c.args.sections.now c.requires c.in_ok-graph.graph c.in_ok-graph.ensures)
    (new_extents_are g.format g.extents g.pages g.sections c.args.sections.now c.requires c.in_ok-extents.extents c.in_ok-extents.ensures)
    c.in_ok-index.ensures c.none-sweeps.ensures c.in_ok-roots.ensures
