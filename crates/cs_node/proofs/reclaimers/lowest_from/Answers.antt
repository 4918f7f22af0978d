use Rattle.std.proofs.Common.{◌≡◌, ◌∙◌, inl, inr, ℕ, ◌+◌, ◌<◌, ◌≤◌, true, false, arith, subst, sym}
use Rattle.std.proofs.lemmas.Bool.{cases_eq}
use Rattle.cs_core.specs.Sweepable.{IsUnsweepable}
use Rattle.cs_node.proofs.reclaimers.lowest_from.Goals as goal

-- what is so of all before i, and of i, is so of all before the next
one_more : (P : ℕ → Type 0) (from i : ℕ) → ((k : ℕ) → from ≤ k → k < i → P k) → P i → (k : ℕ) → from ≤ k → k < i + 1 → P k
one_more P from i before here k above lt = elim (cases_eq k i) [
  | inl at ↦ subst P (sym at) here
  | inr other ↦ before k above (omega (arith, lt, other))
]

pub loop-extent-preserved : goal.loop-extent-preserved
loop-extent-preserved g c =
    let was = c.loop-extent.invariant in
    (omega (arith, was.0), one_more (λ (k : ℕ). IsUnsweepable c.args.core.now.store k) c.args.from c.loop-extent.extent was.1 (c.is_sweepable.ensures.not (λ is. let clash : false ≡ true = sym c.if-is_sweepable.false ∙ is in cc clash)))
