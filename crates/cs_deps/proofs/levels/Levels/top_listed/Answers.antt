use Rattle.std.proofs.Common.{◌≡◌, ◌∙◌, ℕ, ◌≤◌, ap, sym, inl, inr, ⊎_elim, arith}
use Rattle.cs_deps.specs.declared.elements.Element.TheVariants.{Plain}
use Rattle.cs_deps.specs.Levels.{level_by}
use Rattle.cs_deps.proofs.InSpans.{each_more, each_all, in_each}
use Rattle.cs_deps.proofs.levels.Levels.top_listed.Goals as goal

pub loop-span-preserved : goal.loop-span-preserved
loop-span-preserved c =
    let one = c.top_span-top.ensures in
    let was = c.loop-span.invariant in
    record {
      low = omega (arith, one.low, was.low);
      above = each_more c.args.spans.now c.loop-span.span-index (omega arith) (λ (n : ℕ). level_by c.args.self.now (Plain n) ≤ c.top_span-top.result.level) (λ n h. omega (arith, was.above n h, one.low)) one.above;
      reached = ⊎_elim
          (λ (e : c.top_span-top.result ≡ c.loop-span.top). ⊎_elim (λ (f : c.loop-span.top ≡ c.args.best). inl (e ∙ f)) (λ (r : _). inr (r.0, r.1, ap (λ b. b.before) e ∙ r.2, r.3 ∙ ap (λ b. b.level) (sym e))) was.reached)
          (λ (r : _). inr (r.0, in_each c.args.spans.now c.loop-span.span-index r.0 (omega arith) r.1, r.2, r.3))
          one.reached;
    }

pub returns-clause-above : goal.returns-clause-above
returns-clause-above c = each_all c.args.spans.now c.loop-span.span-index (omega arith) (λ (n : ℕ). level_by c.args.self.now (Plain n) ≤ c.loop-span.top.level) c.loop-span.invariant.above
