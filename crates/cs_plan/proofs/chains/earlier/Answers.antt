use Rattle.std.proofs.Common.{◌≡◌, ◌+◌, Option, refl, subst, sym, arith}
use Rattle.std.specs.Prelude.{◌-◌, IfSome, IsNone}
use Rattle.cs_deps.specs.declared.elements.Element.{Element}
use Rattle.cs_deps.specs.Pending.{Needs}
use Rattle.cs_deps.specs.Chain.{IsHeight}
use Rattle.cs_deps.proofs.HeightSteps.{same_height}
use Rattle.cs_plan.proofs.chains.earlier.Goals as goal

pub returns-in_default-Some : goal.returns-in_default-Some
returns-in_default-Some c n h =
    let g = c.args.graph.now.staging.pending in
    let x = c.args.element in
    let e = same_height g x c.kept.result.0 (n + 2) c.kept.ensures.height h in
    let b = subst (λ (o : Option Element). IfSome o (λ p. Needs g x p × IsHeight g p (c.kept.result.0 - 1))) c.in_default-Some.is-1 c.kept.ensures.before in
    let less : c.kept.result.0 - 1 ≡ n + 1 = omega (arith, e) in
    (b.0, subst (IsHeight g c.in_default-Some.before) less b.1)

pub returns-in_default-None : goal.returns-in_default-None
returns-in_default-None c n h =
    let g = c.args.graph.now.staging.pending in
    let x = c.args.element in
    let e = same_height g x c.kept.result.0 (n + 2) c.kept.ensures.height h in
    let one = c.kept.ensures.first.0 (subst (λ (o : Option Element). IsNone o) (sym c.in_default-None.is-1) refl) in
    absurd (omega (arith, e, one))
