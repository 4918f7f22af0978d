use Rattle.std.proofs.Common.{◌∙◌, refl, subst, sym, ap}
use Rattle.std.proofs.lemmas.Option.{get_or_from_slice_get}
use Rattle.cs_deps.specs.View.{pending_of}
use Rattle.cs_deps.specs.Pending.{WaitsAt}
use Rattle.cs_check.proofs.Firsts.{needs_before_at}
use Rattle.cs_check.proofs.timings.Timing.needs_before.Goals as goal

pub returns-in-Some : goal.returns-in-Some
returns-in-Some c =
    let g = pending_of c.args.self.now.view.now in
    let found = rw c.deref.ensures.value at c.in-Some.ensures in
    let same = c.index.ensures ∙ get_or_from_slice_get c.args.self.now.view.now.waiting.items c.in-Some.k (c.args.element, found.0) c.index.result.now found.1 in
    let both = needs_before_at g c.requires.timed.listing c.args.self.now.firsts.now c.args.element c.args.i c.in-Some.k c.index.result.now.1
    (subst (λ d. WaitsAt g c.in-Some.k c.args.element d) (sym (ap (λ w. w.1) same)) found.1) in
    ((λ yes. both.0 (c.are_before.ensures.0 yes)), (λ needs. c.are_before.ensures.1 (both.1 needs)))

pub returns-in-None : goal.returns-in-None
returns-in-None c =
    let none = rw c.deref.ensures.value at c.in-None.ensures in
    ((λ _ k d at. absurd (none (k, d, at))), (λ _. refl))
