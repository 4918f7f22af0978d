use Rattle.cs_deps.specs.contracts.graphs.Graph.{the_view}
use Rattle.cs_deps.proofs.Marking.{first_waits_too}
use Rattle.cs_deps.proofs.graphs.Graph.wanted.Goals as goal

pub wanted_of-requires-clause-first : goal.wanted_of-requires-clause-first
wanted_of-requires-clause-first c =
    rw (c.deref.ensures.value, c.deref-2.ensures.value, c.deref-3.ensures.value) (first_waits_too (the_view c.self.inside).staging c.self.invariant.whole.kept)
