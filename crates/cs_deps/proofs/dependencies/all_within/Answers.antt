use Rattle.std.proofs.Common.{ℕ, ◌≤◌, refl, arith}
use Rattle.cs_deps.proofs.InSpans.{each_none, each_more, each_all, in_each}
use Rattle.cs_deps.proofs.dependencies.all_within.Goals as goal

pub loop-span-init : goal.loop-span-init
loop-span-init c = each_none c.args.spans.now (λ (n : ℕ). (1 ≤ n) × (n ≤ c.args.staged))

pub returns-then-not-span_within : goal.returns-then-not-span_within
returns-then-not-span_within c = (
  (λ t. absurd (cc t)),
  (λ all. absurd (cc (c.span_within.ensures.1 (λ n h. all n (in_each c.args.spans.now c.loop-span.span-index n (omega arith) h)), c.if-not-span_within.true))),
)

pub loop-span-preserved : goal.loop-span-preserved
loop-span-preserved c = each_more c.args.spans.now c.loop-span.span-index (omega arith) (λ (n : ℕ). (1 ≤ n) × (n ≤ c.args.staged)) c.loop-span.invariant (c.if-not-span_within.ensures.0 refl)

pub returns : goal.returns
returns c = (
  (λ t. each_all c.args.spans.now c.loop-span.span-index (omega arith) (λ (n : ℕ). (1 ≤ n) × (n ≤ c.args.staged)) c.loop-span.invariant),
  (λ all. refl),
)
