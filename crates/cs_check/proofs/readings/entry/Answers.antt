use Rattle.std.proofs.Common.{◌∙◌, List, Some, sym, ap, subst, refl, inr}
use Rattle.std.specs.Prelude.{All, Contains}
use Rattle.std.proofs.lemmas.Option.{same_Some}
use Rattle.cs_deps.specs.declared.elements.Element.{Element}
use Rattle.cs_check.specs.Documents.{elements_in}
use Rattle.cs_check.proofs.ValueSteps.{same_names}
use Rattle.cs_check.proofs.readings.entry.Goals as goal

pub returns-then-not-all_listed-clause-err : goal.returns-then-not-all_listed-clause-err
returns-then-not-all_listed-clause-err c = inr (
  refl,
  λ p.
      let needs = p.2.needs in
      let same = same_names c.args.letters.now c.requires c.in_ok-needs.needs.items needs.0 c.in_ok-needs.ensures.ok.0 needs.1
      (sym c.in_ok-needs.ensures.ok.1 ∙ same_Some _ _ (sym c.in_ok-member-2.ensures.ok ∙ needs.3)) in
      let listed = subst (λ (xs : List Element). All (Contains (elements_in c.args.waiting.now)) xs) (sym same ∙ sym c.deref.ensures.value) needs.2 in
      absurd (cc (c.all_listed.ensures.1 listed, c.if-not-all_listed.true)),
)

pub returns-clause-ok : goal.returns-clause-ok
returns-clause-ok c = record {
  name = c.in_ok-element.ensures.ok.0;
  element = c.in_ok-member.ensures.ok ∙ ap Some c.in_ok-element.ensures.ok.1;
  needs = (
    c.in_ok-needs.needs.items,
    c.in_ok-needs.ensures.ok.0,
    subst (λ (xs : List Element). All (Contains (elements_in c.args.waiting.now)) xs) c.deref.ensures.value (c.all_listed.ensures.0 c.if-not-all_listed.false),
    c.in_ok-member-2.ensures.ok ∙ ap Some c.in_ok-needs.ensures.ok.1,
    rw (c.deref-2.ensures.value) at c.in_ok-needs-2.ensures,
  );
}
