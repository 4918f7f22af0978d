use Rattle.std.proofs.Common.{ℕ, subst}
use Rattle.std.specs.Prelude.{[], None, Option, Some}
use Rattle.cs_inspect.specs.Past.{GoesPast}
use Rattle.cs_inspect.proofs.Passing.{as_next}
use Rattle.cs_node.proofs.StoreChoices.{no_extent, some_extent}
use Rattle.cs_node.proofs.choices.a_node_chooses_as_a_store.Goals as goal

pub returns-clause-extent : goal.returns-clause-extent
returns-clause-extent g c = λ old read extent apart past honest view chunks are live.
    let it = some_extent past.choice extent past.extent in
    (it.0, as_next g.D.PageDisk old read _ _ (Some (extent, it.0)) apart (subst (λ (x : Option (ℕ × ℕ)). GoesPast g.D.PageDisk [] _ old read x) it.1 (past.chooses honest view chunks are live)))

pub returns-clause-none : goal.returns-clause-none
returns-clause-none g c = λ old read apart past honest view chunks are live.
    as_next g.D.PageDisk old read _ _ None apart (subst (λ (x : Option (ℕ × ℕ)). GoesPast g.D.PageDisk [] _ old read x) (no_extent past.choice past.extent) (past.chooses honest view chunks are live))
