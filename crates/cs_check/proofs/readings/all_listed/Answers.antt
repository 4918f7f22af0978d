use Rattle.std.proofs.Common.{arith, refl}
use Rattle.std.specs.Prelude.{Contains}
use Rattle.std.proofs.lemmas.Option.{slice_get_within, slice_get-get_or}
use Rattle.cs_deps.specs.declared.elements.Element.TheVariants.{Plain}
use Rattle.cs_check.specs.Documents.{elements_in}
use Rattle.cs_check.proofs.Places.{each_next, all_from, at_from}
use Rattle.cs_check.proofs.readings.all_listed.Goals as goal

pub loop-element-preserved : goal.loop-element-preserved
loop-element-preserved c = each_next (λ _ x. Contains (elements_in c.args.waiting.now) x) c.args.elements.now c.loop-element.element-index _ (slice_get-get_or c.args.elements.now c.loop-element.element-index (Plain 0) c.loop-element-test.true) (c.is_listed.ensures.0 c.if-not-is_listed.false) c.loop-element.invariant

pub returns-then-not-is_listed : goal.returns-then-not-is_listed
returns-then-not-is_listed c = (
  (λ e. cc e),
  (λ all. absurd (cc (c.is_listed.ensures.1 (at_from (Contains (elements_in c.args.waiting.now)) c.args.elements.now c.loop-element.element-index _ all (slice_get-get_or c.args.elements.now c.loop-element.element-index (Plain 0) c.loop-element-test.true)), c.if-not-is_listed.true))),
)

pub returns : goal.returns
returns c = ((λ _. all_from (Contains (elements_in c.args.waiting.now)) c.args.elements.now (λ k x at. c.loop-element.invariant k x (omega (arith, slice_get_within c.args.elements.now k x at)) at)), (λ _. refl))
