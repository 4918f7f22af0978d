use Rattle.std.proofs.Common.{List, IfOk, subst}
use Rattle.cs_deps.specs.declared.elements.Element.{Element}
use Rattle.cs_check.specs.Documents.{NamesThese}
use Rattle.cs_check.proofs.Permuted.{these_ok}
use Rattle.cs_check.proofs.name_runs.named.Goals as goal

pub returns : goal.returns
returns c =
    let sorted = subst (λ (xs : List Element). IfOk c.in_runs-2.result (λ d. NamesThese d xs)) c.deref.ensures.value c.in_runs-2.ensures in
    let these = these_ok c.in_runs-2.result c.in_ok-sorted.sorted.items c.sort_by_key.new.self.items c.sort_by_key.ensures.permutation sorted in
    subst (λ (xs : List Element). IfOk c.in_runs-2.result (λ d. NamesThese d xs)) c.in_ok-sorted.ensures.items these
