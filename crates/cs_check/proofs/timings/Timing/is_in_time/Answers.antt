use Rattle.std.proofs.Common.{arith, refl}
use Rattle.std.proofs.lemmas.Option.{slice_get_within, slice_get-get_or}
use Rattle.cs_deps.specs.declared.elements.Element.{Element}
use Rattle.cs_deps.specs.declared.elements.Element.TheVariants.{Plain}
use Rattle.cs_deps.specs.View.{pending_of}
use Rattle.cs_check.specs.Progress.{NeedsBefore}
use Rattle.cs_check.proofs.Places.{each_next, all_from, at_from}
use Rattle.cs_check.proofs.timings.Timing.is_in_time.Goals as goal

pub loop-member-preserved : goal.loop-member-preserved
loop-member-preserved c = each_next (λ _ x. NeedsBefore (pending_of c.args.self.now.view.now) c.args.self.now.firsts.now x c.args.i) c.args.round.now c.loop-member.member-index _ (slice_get-get_or c.args.round.now c.loop-member.member-index (Plain 0) c.loop-member-test.true) (c.needs_before.ensures.0 c.if-not-needs_before.false) c.loop-member.invariant

pub returns-then-not-needs_before : goal.returns-then-not-needs_before
returns-then-not-needs_before c = (
  (λ e. cc e),
  (λ all. absurd (cc (c.needs_before.ensures.1 (at_from (λ (x : Element). NeedsBefore (pending_of c.args.self.now.view.now) c.args.self.now.firsts.now x c.args.i) c.args.round.now c.loop-member.member-index _ all (slice_get-get_or c.args.round.now c.loop-member.member-index (Plain 0) c.loop-member-test.true)), c.if-not-needs_before.true))),
)

pub returns : goal.returns
returns c = ((λ _. all_from (λ (x : Element). NeedsBefore (pending_of c.args.self.now.view.now) c.args.self.now.firsts.now x c.args.i) c.args.round.now (λ k x at. c.loop-member.invariant k x (omega (arith, slice_get_within c.args.round.now k x at)) at)), (λ _. refl))
