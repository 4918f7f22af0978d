use Rattle.std.proofs.Common.{ℕ, arith}
use Rattle.std.proofs.lemmas.Option.{slice_get_within, slice_get-get_or}
use Rattle.cs_deps.specs.declared.spans.Span.{Span}
use Rattle.cs_deps.specs.Named.{IsInSpan, IsInSpans}
use Rattle.cs_check.proofs.Places.{each_next}
use Rattle.cs_check.proofs.Holders.{spans_from}
use Rattle.cs_check.proofs.nestings.are_held.Goals as goal

pub loop-i-preserved : goal.loop-i-preserved
loop-i-preserved c = each_next (λ _ (s : Span). (n : ℕ) → IsInSpan n s → IsInSpans c.args.second.now n) c.args.first.now c.loop-i.i _ (slice_get-get_or c.args.first.now c.loop-i.i (record { first = 0; last = 0 }) c.loop-i-test.true) (c.holds.ensures c.if-not-holds.false) c.loop-i.invariant

pub returns : goal.returns
returns c _ = spans_from c.args.first.now (IsInSpans c.args.second.now) (λ j s at. c.loop-i.invariant j s (omega (arith, slice_get_within c.args.first.now j s at)) at)
