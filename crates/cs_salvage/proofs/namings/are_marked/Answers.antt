use Rattle.std.proofs.Common.{◌≡◌, ◌∙◌, ℕ, ◌<◌, ◌≤◌, ⊎_elim, ap, arith, get_or, length, subst, sym}
use Rattle.std.proofs.lemmas.Bool.{cases_lt}
use Rattle.cs_frame.specs.declared.locators.Locator.{Locator}
use Rattle.cs_salvage.specs.Namings.{mark_of}
use Rattle.cs_salvage.proofs.Markings.{all_marked, no_place, one_marked}
use Rattle.cs_salvage.proofs.Sames.{at_any}
use Rattle.cs_salvage.proofs.namings.are_marked.Goals as goal

pub returns-then-places-k : goal.returns-then-places-k
returns-then-places-k c = λ is.
    c.if-places-k.true (one_marked c.args.places.now c.args.parts.now is c.loop-k.k no_place _ c.loop-k-test.true ∙ sym c.mark_of_part.ensures)

pub loop-k-preserved : goal.loop-k-preserved
loop-k-preserved c = record {
  each = λ j d e lt. ⊎_elim
      (λ (l : j < c.loop-k.k). c.loop-k.invariant.each j d e l)
      (λ (le : c.loop-k.k ≤ j).
      let same : c.loop-k.k ≡ j = omega (arith, le, lt) in
      let inside : c.loop-k.k < length c.args.parts.now = omega (arith, c.loop-k-test.true, c.if-places-parts.false) in
      subst (λ (i : ℕ). (get_or c.args.places.now i d).mark ≡ mark_of (get_or c.args.parts.now i e)) same
      (ap (λ (l : Locator). l.mark) (at_any c.args.places.now c.loop-k.k c.loop-k-test.true d no_place) ∙ c.if-places-k.false ∙ c.mark_of_part.ensures
      ∙ ap mark_of (at_any c.args.parts.now c.loop-k.k inside _ e)))
      (cases_lt j c.loop-k.k);
}

pub returns : goal.returns
returns c = all_marked c.args.places.now c.args.parts.now c.if-places-parts.false (λ j d e lt. c.loop-k.invariant.each j d e (omega (arith, lt, c.loop-k-test.false)))
