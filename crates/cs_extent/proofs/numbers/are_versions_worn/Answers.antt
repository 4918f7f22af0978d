use Rattle.std.proofs.Common.{◌≡◌, ◌+◌, ◌^◌, ◌<◌, ◌≤◌, ℕ, arith, get_or, refl, subst, ⊎_elim}
use Rattle.std.proofs.lemmas.Bool.{cases_lt}
use Rattle.cs_extent.specs.Frames.{family_of}
use Rattle.cs_extent.proofs.Staged.{family_inside}
use Rattle.cs_extent.proofs.numbers.are_versions_worn.Goals as goal

pub loop-j-init : goal.loop-j-init
loop-j-init c = λ j lt worn. omega (arith, lt)

pub is_section_worn-requires-clause-families : goal.is_section_worn-requires-clause-families
is_section_worn-requires-clause-families c = omega (arith, c.requires.families, family_inside c.args.sections c.loop-j.j c.loop-j-test.true)

pub returns-then-is_section_worn : goal.returns-then-is_section_worn
returns-then-is_section_worn c = ((λ t. (c.loop-j.j, c.loop-j-test.true, c.is_section_worn.ensures.0 c.if-is_section_worn.true)), (λ w. refl))

pub loop-j-preserved : goal.loop-j-preserved
loop-j-preserved c = λ j lt worn. ⊎_elim
    (λ (l : j < c.loop-j.j). c.loop-j.invariant j l worn)
    (λ (l : c.loop-j.j ≤ j).
    let same : j ≡ c.loop-j.j = omega (arith, l, lt) in
    let here = subst (λ (n : ℕ). 2 ^ 63 ≤ get_or c.args.graph.now.staging.latest (family_of n) 0 + get_or c.args.counts n 0) same worn in
    absurd (cc (c.if-is_section_worn.false, c.is_section_worn.ensures.1 here)))
    (cases_lt j c.loop-j.j)

pub returns : goal.returns
returns c = ((λ t. absurd (cc t)), (λ w. absurd (c.loop-j.invariant w.0 (omega (arith, w.1, c.loop-j-test.false)) w.2)))
