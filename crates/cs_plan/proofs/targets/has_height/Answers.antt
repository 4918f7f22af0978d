use Rattle.std.proofs.Common.{◌≡◌, subst, arith}
use Rattle.std.proofs.lemmas.Bool.Decides.{nat_tests}
use Rattle.cs_deps.specs.Chain.{IsHeight}
use Rattle.cs_deps.proofs.HeightSteps.{same_height, chain_ends_waiting}
use Rattle.cs_plan.proofs.targets.has_height.Goals as goal

pub returns-then-not-waits : goal.returns-then-not-waits
returns-then-not-waits c = (
  (λ t. absurd (cc t)),
  (λ h. absurd (cc (c.waits.ensures.1 (chain_ends_waiting c.args.graph.now.staging.pending c.args.element c.args.height h.reached), c.if-not-waits.true))),
)

pub returns : goal.returns
returns c = (
  (λ t. (let e : c.kept-kept.result.0 ≡ c.args.height = grind (arith, nat_tests) in subst (IsHeight c.args.graph.now.staging.pending c.args.element) e c.kept-kept.ensures.height)),
  (λ h. (let e : c.kept-kept.result.0 ≡ c.args.height = same_height c.args.graph.now.staging.pending c.args.element c.kept-kept.result.0 c.args.height c.kept-kept.ensures.height h in grind (arith, nat_tests))),
)
