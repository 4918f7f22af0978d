use Rattle.std.proofs.Common.{◌∙◌, subst, sym, List, ℕ}
use Rattle.cs_index.specs.contracts.indexes.Index.{the_view}
use Rattle.cs_index.specs.Held.{AreCounts}
use Rattle.cs_index.specs.State.{index_of}
use Rattle.cs_index.proofs.indexes.Index.copied.Goals as goal

pub returns-clause-counts : goal.returns-clause-counts
returns-clause-counts c =
    rw (← c.self.view_is) (subst (λ (ns : List ℕ). AreCounts ns (index_of (the_view c.self.inside))) (sym (c.in_ok-on.ensures.items ∙ c.deref.ensures.value)) c.self.invariant.counts)
