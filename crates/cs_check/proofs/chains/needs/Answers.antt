use Rattle.std.proofs.Common.{◌∙◌, subst, sym, ap}
use Rattle.std.proofs.lemmas.Option.{get_or_from_slice_get}
use Rattle.cs_deps.specs.View.{pending_of}
use Rattle.cs_deps.specs.Pending.{WaitsAt}
use Rattle.cs_check.proofs.Linked.{needs_at}
use Rattle.cs_check.proofs.chains.needs.Goals as goal

pub returns-in-Some : goal.returns-in-Some
returns-in-Some c =
    let g = pending_of c.args.view.now in
    let found = rw c.deref.ensures.value at c.in-Some.ensures in
    let same = c.index.ensures ∙ get_or_from_slice_get c.args.view.now.waiting.items c.in-Some.k (c.args.first, found.0) c.index.result.now found.1 in
    let both = needs_at g c.requires c.in-Some.k c.args.first c.args.second c.index.result.now.1
    (subst (λ d. WaitsAt g c.in-Some.k c.args.first d) (sym (ap (λ w. w.1) same)) found.1) in
    ((λ yes. both.0 (c.names.ensures.0 yes)), (λ needs. c.names.ensures.1 (both.1 needs)))
