use Rattle.std.proofs.Common.{◌≡◌, ◌<◌, ℕ, List, ◌∷◌, length, get_or, arith, subst, sym, refl}
use Rattle.std.proofs.lemmas.Option.{slice_get_read, get_or_from_slice_get}
use Rattle.cs_check.proofs.Numerals.{not_any, no_prefix, no_family_next, letter_is_ascii}
use Rattle.cs_check.proofs.names.element_from.Goals as goal

pub returns : goal.returns
returns c =
    let small : 119 < 128 = omega arith in
    not_any c.args.letters.now c.args.name.now (no_prefix 119 c.args.name.now c.strip_prefix.result c.strip_prefix.ensures.cases small c.in_default.is) (λ f lt. c.loop-family.invariant f (omega arith))

pub loop-family-preserved : goal.loop-family-preserved
loop-family-preserved c =
    let letters = c.args.letters.now in
    let at = slice_get_read letters (length letters) c.loop-family.family c.index-letters-family.result refl c.loop-family-test.true c.index-letters-family.is in
    let is : get_or letters c.loop-family.family 0 ≡ c.index-letters-family.result = get_or_from_slice_get letters c.loop-family.family c.index-letters-family.result 0 at in
    let ascii : c.index-letters-family.result < 128 = subst (λ (n : ℕ). n < 128) is (letter_is_ascii letters c.requires c.loop-family.family c.loop-family-test.true) in
    let none = no_prefix c.index-letters-family.result c.args.name.now c.strip_prefix-in-loop-family.result c.strip_prefix-in-loop-family.ensures.cases ascii c.in_default-strip_prefix.is in
    no_family_next letters c.args.name.now c.loop-family.family (subst (λ (n : ℕ). (rest : List ℕ) → c.args.name.now ≡ n ∷ rest → ⊥) (sym is) none) c.loop-family.invariant
