use Rattle.std.proofs.Common.{List, refl, subst, sym}
use Rattle.cs_deps.specs.declared.elements.Element.{Element}
use Rattle.cs_check.specs.Listing.{IsOnce}
use Rattle.cs_check.proofs.Permuted.{once_permuted, once_permuted_back}
use Rattle.cs_check.proofs.orders.is_once.Goals as goal

pub returns-then-ascends : goal.returns-then-ascends
returns-then-ascends c =
    let sorted = subst (λ (xs : List Element). IsOnce xs) c.deref.ensures.value (c.ascends.ensures c.if-ascends.true) in
    let once = once_permuted_back c.in_ok-sorted.sorted.items c.sort_by_key.new.self.items c.sort_by_key.ensures.permutation sorted in
    ((λ _. subst (λ (xs : List Element). IsOnce xs) c.in_ok-sorted.ensures.items once), (λ _. refl))

pub returns-then-repeats : goal.returns-then-repeats
returns-then-repeats c =
    let twice : IsOnce c.args.elements.now → ⊥ = λ once.
    c.repeats.ensures c.if-repeats.true (subst (λ (xs : List Element). IsOnce xs) (sym c.deref-2.ensures.value) (once_permuted c.in_ok-sorted.sorted.items c.sort_by_key.new.self.items c.sort_by_key.ensures.permutation (subst (λ (xs : List Element). IsOnce xs) (sym c.in_ok-sorted.ensures.items) once))) in
    ((λ e. cc e), (λ once. absurd (twice once)))
