use Rattle.std.proofs.Common.{ℕ, arith}
use Rattle.std.proofs.lemmas.Option.{slice_get_within, slice_get-get_or}
use Rattle.cs_deps.specs.declared.spans.Span.{Span}
use Rattle.cs_deps.specs.Named.{IsInSpan}
use Rattle.cs_deps.specs.View.{pending_of}
use Rattle.cs_check.specs.Progress.{ArePlainsBefore}
use Rattle.cs_check.proofs.Places.{each_next}
use Rattle.cs_check.proofs.Holders.{spans_from}
use Rattle.cs_check.proofs.timings.Timing.spans_before.Goals as goal

pub loop-span-preserved : goal.loop-span-preserved
loop-span-preserved c = each_next (λ _ (s : Span). (n : ℕ) → IsInSpan n s → ArePlainsBefore (pending_of c.args.self.now.view.now) c.args.self.now.firsts.now n c.args.i) c.args.spans.now c.loop-span.span-index _ (slice_get-get_or c.args.spans.now c.loop-span.span-index (record { first = 0; last = 0 }) c.loop-span-test.true) (c.span_before.ensures c.if-not-span_before.false) c.loop-span.invariant

pub returns : goal.returns
returns c _ = spans_from c.args.spans.now (λ n. ArePlainsBefore (pending_of c.args.self.now.view.now) c.args.self.now.firsts.now n c.args.i) (λ j s at. c.loop-span.invariant j s (omega (arith, slice_get_within c.args.spans.now j s at)) at)
