use Rattle.std.proofs.Common.{refl}
use Rattle.cs_deps.specs.contracts.graphs.Graph.{the_view}
use Rattle.cs_deps.proofs.Filed.{is_whole}
use Rattle.cs_deps.proofs.graphs.Graph.families.Goals as goal

pub returns-clause-whole : goal.returns-clause-whole
returns-clause-whole c =
    let g = c.self.inside in
    rw (← c.self.view_is) (is_whole (the_view g) c.self.invariant.whole g.levels c.self.invariant.indexed g.records c.self.invariant.filed refl)
