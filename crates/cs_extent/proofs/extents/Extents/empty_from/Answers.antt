use Rattle.std.proofs.Common.{◌≡◌, ◌<◌, ◌≤◌, ℕ, arith, sym, subst, ⊎_elim}
use Rattle.std.proofs.lemmas.Bool.{cases_lt}
use Rattle.cs_frame.proofs.GeometryLaws.{bounds}
use Rattle.cs_extent.specs.State.{extents_of}
use Rattle.cs_extent.proofs.extents.Extents.empty_from.Goals as goal

pub loop-e-init : goal.loop-e-init
loop-e-init c = λ d le lt. absurd (omega (arith, le, lt))

pub returns-then-is_empty-clause-empty : goal.returns-then-is_empty-clause-empty
returns-then-is_empty-clause-empty c = record {
  behind = c.loop-e.auto.e;
  inside = omega (arith, c.loop-e-test.true, c.extent_count-e-end.ensures.count);
  empty = c.is_empty.ensures.0 c.if-is_empty.true;
  first = c.loop-e.invariant;
}

pub returns-then-is_empty-clause-small : goal.returns-then-is_empty-clause-small
returns-then-is_empty-clause-small c = omega (arith, c.loop-e-test.true, c.extent_count-e-end.ensures.count, (bounds _ _ _ _ c.extent_count-e-end.ensures.whole.geometry).most_extents)

pub loop-e-preserved : goal.loop-e-preserved
loop-e-preserved c = λ d le lt. ⊎_elim
    (λ (l : d < c.loop-e.e). c.loop-e.invariant d le l)
    (λ (l : c.loop-e.e ≤ d).
    let same : d ≡ c.loop-e.e = omega (arith, l, lt) in
    subst (λ (n : ℕ). 0 < (extents_of c.args.self.now).pointer n) (sym same) (⊎_elim
    (λ (p : 0 < (extents_of c.args.self.now).pointer c.loop-e.e). p)
    (λ (p : (extents_of c.args.self.now).pointer c.loop-e.e ≤ 0). absurd (cc (c.if-is_empty.false, c.is_empty.ensures.1 (omega (arith, p)))))
    (cases_lt 0 ((extents_of c.args.self.now).pointer c.loop-e.e))))
    (cases_lt d c.loop-e.e)

pub unreachable-requires : goal.unreachable-requires
unreachable-requires c =
    let e = c.requires.1 in
    let below : c.requires.0 < c.loop-e.e = omega (arith, e.inside, c.loop-e-test.false, c.extent_count-e-end.ensures.count) in
    let some : 0 < (extents_of c.args.self.now).pointer c.requires.0 = c.loop-e.invariant c.requires.0 e.behind below in
    omega (arith, some, e.empty)
