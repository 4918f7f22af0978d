use Rattle.std.proofs.Common.{arith, refl}
use Rattle.std.proofs.lemmas.Option.{slice_get_within, slice_get-get_or}
use Rattle.cs_deps.specs.declared.elements.Element.TheVariants.{Plain}
use Rattle.cs_deps.specs.View.{pending_of}
use Rattle.cs_deps.specs.Pending.{Waits}
use Rattle.cs_check.proofs.Places.{each_next, all_from}
use Rattle.cs_check.proofs.plans.all_wait.Goals as goal

pub loop-element-preserved : goal.loop-element-preserved
loop-element-preserved c = each_next (λ _ x. Waits (pending_of c.args.view.now) x) c.args.elements.now c.loop-element.element-index _ (slice_get-get_or c.args.elements.now c.loop-element.element-index (Plain 0) c.loop-element-test.true) (c.waits.ensures.0 c.if-not-waits.false) c.loop-element.invariant

pub returns : goal.returns
returns c = ((λ _. all_from (Waits (pending_of c.args.view.now)) c.args.elements.now (λ k x at. c.loop-element.invariant k x (omega (arith, slice_get_within c.args.elements.now k x at)) at)), (λ _. refl))
