use Rattle.cs_deps.proofs.LowerBound.{no_fewer_sets}
use Rattle.cs_deps.proofs.graph_laws.a_chain_bounds_every_schedule.Goals as goal

pub returns : goal.returns
returns c = λ g target chain sets staged is schedule respects covers. no_fewer_sets g staged target chain is sets schedule respects covers
