use Rattle.std.proofs.Common.{◌≡◌, ℕ, ◌<◌, arith, refl, ⊎_elim, subst, sym}
use Rattle.cs_deps.specs.View.{pending_of}
use Rattle.cs_deps.proofs.Within.{below_next}
use Rattle.cs_check.specs.Progress.{IsNestedAt}
use Rattle.cs_check.proofs.Nested.{nested_from, nested_to}
use Rattle.cs_check.proofs.nestings.is_nested.Goals as goal

pub loop-k-preserved : goal.loop-k-preserved
loop-k-preserved c = λ j lt.
    ⊎_elim
    (λ (l : j < c.loop-k.k). c.loop-k.invariant j l)
    (λ (s : j ≡ c.loop-k.k). subst (λ (i : ℕ). IsNestedAt (pending_of c.args.view.now) i) (sym s) (c.is_nested_at.ensures.0 c.if-not-is_nested_at.false))
    (below_next j c.loop-k.k lt)

pub returns-then-not-is_nested_at : goal.returns-then-not-is_nested_at
returns-then-not-is_nested_at c = ((λ e. cc e), (λ nested. absurd (cc (c.is_nested_at.ensures.1 (nested_to (pending_of c.args.view.now) nested c.loop-k.k), c.if-not-is_nested_at.true))))

pub returns : goal.returns
returns c = ((λ _. nested_from (pending_of c.args.view.now) (λ k lt. c.loop-k.invariant k (omega arith))), (λ _. refl))
