use Rattle.cs_deps.specs.contracts.graphs.Graph.{the_view}
use Rattle.cs_deps.proofs.Counted.{kept_counted}
use Rattle.cs_deps.proofs.graphs.Graph.kept_pages.Goals as goal

pub returns : goal.returns
returns c =
    let g = c.self.inside in
    rw (← c.self.view_is) (λ none. kept_counted (the_view g) c.self.invariant.whole none g.levels c.self.invariant.indexed g.records c.self.invariant.filed c.len.result c.len.ensures)
