use Rattle.std.proofs.Common.{List, arith, subst, sym}
use Rattle.cs_deps.specs.declared.spans.Span.{Span}
use Rattle.cs_deps.specs.Named.{IsInSpans}
use Rattle.cs_deps.specs.View.{pending_of}
use Rattle.cs_check.proofs.BeforeSteps.{all_before_from}
use Rattle.cs_check.proofs.timings.Timing.named_before.Goals as goal

pub returns : goal.returns
returns c said = all_before_from (pending_of c.args.self.now.view.now) c.requires.timed.listing c.args.self.now.firsts.now c.args.needs.now c.args.i
    (λ n t. c.span_before.ensures c.if-not-span_before.false n (t.0, omega (arith, t.1, c.through_number.ensures)))
    (λ n s. c.spans_before.ensures c.if-not-spans_before.false n (subst (λ (xs : List Span). IsInSpans xs n) (sym c.spans.ensures) s))
    (c.versions_before.ensures said)
