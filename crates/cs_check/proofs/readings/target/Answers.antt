use Rattle.std.proofs.Common.{◌∙◌, List, sym, subst, refl, inr}
use Rattle.std.specs.Prelude.{All, Contains}
use Rattle.cs_deps.specs.declared.elements.Element.{Element}
use Rattle.cs_check.specs.Documents.{elements_in}
use Rattle.cs_check.proofs.ValueSteps.{same_names}
use Rattle.cs_check.proofs.readings.target.Goals as goal

pub returns-then-not-all_listed-clause-err : goal.returns-then-not-all_listed-clause-err
returns-then-not-all_listed-clause-err c = inr (
  refl,
  λ p.
      let same = same_names c.args.letters.now c.requires c.in_ok-elements.elements.items p.0 c.in_ok-elements.ensures.ok.0 p.1 (sym c.in_ok-elements.ensures.ok.1 ∙ p.3) in
      let listed = subst (λ (xs : List Element). All (Contains (elements_in c.args.waiting.now)) xs) (sym same ∙ sym c.deref.ensures.value) p.2 in
      absurd (cc (c.all_listed.ensures.1 listed, c.if-not-all_listed.true)),
)

pub returns-clause-ok : goal.returns-clause-ok
returns-clause-ok c = (
  c.in_ok-elements.elements.items,
  c.in_ok-elements.ensures.ok.0,
  subst (λ (xs : List Element). All (Contains (elements_in c.args.waiting.now)) xs) c.deref.ensures.value (c.all_listed.ensures.0 c.if-not-all_listed.false),
  c.in_ok-elements.ensures.ok.1,
  rw (c.deref-2.ensures.value) at c.in_ok-named.ensures,
)
