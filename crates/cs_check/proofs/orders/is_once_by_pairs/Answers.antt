use Rattle.std.proofs.Common.{arith, refl}
use Rattle.std.proofs.lemmas.Option.{slice_get_within, slice_get-get_or}
use Rattle.cs_deps.specs.declared.elements.Element.TheVariants.{Plain}
use Rattle.cs_check.specs.Progress.{StandsBelow}
use Rattle.cs_check.proofs.Places.{each_next, once_from, once_to}
use Rattle.cs_check.proofs.orders.is_once_by_pairs.Goals as goal

pub loop-j-preserved : goal.loop-j-preserved
loop-j-preserved c = each_next (λ k x. StandsBelow c.args.elements.now k x → ⊥) c.args.elements.now c.loop-j.j _ (slice_get-get_or c.args.elements.now c.loop-j.j (Plain 0) c.loop-j-test.true) (λ b. absurd (cc (c.stands_below.ensures.1 b, c.if-stands_below.false))) c.loop-j.invariant

pub returns-then-stands_below : goal.returns-then-stands_below
returns-then-stands_below c = ((λ e. cc e), (λ once. absurd (once_to c.args.elements.now once c.loop-j.j _ (slice_get-get_or c.args.elements.now c.loop-j.j (Plain 0) c.loop-j-test.true) (c.stands_below.ensures.0 c.if-stands_below.true))))

pub returns : goal.returns
returns c = (
  (λ _. once_from c.args.elements.now (λ k x at. c.loop-j.invariant k x (omega (arith, slice_get_within c.args.elements.now k x at)) at)),
  (λ _. refl),
)
