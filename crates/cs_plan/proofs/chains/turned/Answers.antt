use Rattle.std.proofs.Common.{suc, ◌≡◌, ◌∙◌, ◌-◌, ◌<◌, ◌++◌, ◌∷◌, [], ℕ, length, drop, get_or, ap, arith}
use Rattle.cs_deps.specs.declared.elements.Element.TheVariants.{Plain}
use Rattle.cs_plan.specs.Queues.{backwards}
use Rattle.cs_plan.proofs.Queued.{backwards_more}
use Rattle.cs_plan.proofs.chains.turned.Goals as goal

pub loop-k-preserved : goal.loop-k-preserved
loop-k-preserved c =
    let xs = c.args.elements.now in
    let k : ℕ = c.loop-k.k - 1 in
    let next : c.loop-k.k ≡ suc k = omega arith in
    let inside : k < length xs = omega (arith, c.loop-k.auto.k, c.loop-k-test.true) in
    c.in_ok-push.ensures.items ∙ ap (λ l. l ++ get_or xs k (Plain 0) ∷ []) (c.loop-k.invariant ∙ ap (λ i. backwards (drop i xs)) next) ∙ backwards_more xs k (Plain 0) inside
