use Rattle.std.proofs.Common.{ℕ, ◌≤◌, refl, arith}
use Rattle.cs_deps.specs.declared.elements.Element.TheVariants.{Plain}
use Rattle.cs_deps.specs.Levels.{level_by}
use Rattle.cs_deps.proofs.InSpans.{each_none, each_more, each_all, in_each}
use Rattle.cs_deps.proofs.levels.Levels.have_ended.Goals as goal

pub loop-span-init : goal.loop-span-init
loop-span-init c = each_none c.args.spans.now (λ (n : ℕ). level_by c.args.self.now (Plain n) ≤ c.args.self.now.ended)

pub returns-then-not-has_span_ended : goal.returns-then-not-has_span_ended
returns-then-not-has_span_ended c = (
  (λ t. absurd (cc t)),
  (λ all. absurd (cc (c.has_span_ended.ensures.1 (λ n h. all n (in_each c.args.spans.now c.loop-span.span-index n (omega arith) h)), c.if-not-has_span_ended.true))),
)

pub loop-span-preserved : goal.loop-span-preserved
loop-span-preserved c = each_more c.args.spans.now c.loop-span.span-index (omega arith) (λ (n : ℕ). level_by c.args.self.now (Plain n) ≤ c.args.self.now.ended) c.loop-span.invariant (c.if-not-has_span_ended.ensures.0 refl)

pub returns : goal.returns
returns c = (
  (λ t. each_all c.args.spans.now c.loop-span.span-index (omega arith) (λ (n : ℕ). level_by c.args.self.now (Plain n) ≤ c.args.self.now.ended) c.loop-span.invariant),
  (λ all. refl),
)
