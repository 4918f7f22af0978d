-- Seeking the extent with most garbage.
use Rattle.std.proofs.Common.{◌≡◌, ◌∙◌, inl, inr, ◌≤◌, ◌<◌, ◌+◌, ℕ, List, Option, None, Some, MatchOption, refl, sym, ap, arith, length}
use Rattle.std.specs.Prelude.{slice_get}
use Rattle.std.proofs.lemmas.Bool.{cases_eq, cases_lt}
use Rattle.std.proofs.lemmas.Option.{same_Some, slice_get_within}
use Rattle.cs_inspect.specs.declared.surveys.ExtentUse.{ExtentUse}
use Rattle.cs_inspect.specs.Uses.{HasNoGarbage, IsMostGarbage, garbage}

-- extent e is the first that has most, and that is some
abbrev pub IsFirst : List ExtentUse → (most e : ℕ) → Type 0
IsFirst uses most e = (its : ExtentUse) × (slice_get uses e ≡ Some its) × (garbage its ≡ most) × (0 < most)
    × ((k : ℕ) (used : ExtentUse) → slice_get uses k ≡ Some used → k < e → garbage used < most)

-- the same of the first i extents
pub record IsMostTo (uses : List ExtentUse) (i most : ℕ) (found : Option ℕ) : Type 0 where
  pub each : (k : ℕ) (used : ExtentUse) → slice_get uses k ≡ Some used → k < i → garbage used ≤ most
  pub first : MatchOption found (most ≡ 0) (IsFirst uses most)

pub most_none : (uses : List ExtentUse) → IsMostTo uses 0 0 None
most_none uses = record { each = λ k used at lt. absurd (omega (arith, lt)); first = refl }

module _ (uses : List ExtentUse) (i most g : ℕ) (found : Option ℕ) (used : ExtentUse) (at : slice_get uses i ≡ Some used) (is : g ≡ garbage used) (was : IsMostTo uses i most found) where
  up_to : (n : ℕ) → most ≤ n → g ≤ n → (k : ℕ) (u : ExtentUse) → slice_get uses k ≡ Some u → k < i + 1 → garbage u ≤ n
  up_to n le le' k u there lt = elim (cases_eq k i) [
    | inl here ↦ (let same : garbage used ≡ garbage u = ap garbage (same_Some used u (sym at ∙ ap (slice_get uses) (sym here) ∙ there)) in omega (arith, le', is, same))
    | inr other ↦ (let before : garbage u ≤ most = was.each k u there (omega (arith, lt, other)) in omega (arith, before, le))
  ]

  pub most_taken : most < g → IsMostTo uses (i + 1) g (Some i)
  most_taken more = record {
    each = up_to g (omega (arith, more)) (omega arith);
    first = (used, at, sym is, omega (arith, more), λ k u there lt. (let before : garbage u ≤ most = was.each k u there lt in omega (arith, before, more)));
  }

  pub most_kept : g ≤ most → IsMostTo uses (i + 1) most found
  most_kept less = record { each = up_to most (omega arith) less; first = was.first }

pub most_of_all : (uses : List ExtentUse) (i most : ℕ) (found : Option ℕ) → length uses ≤ i → IsMostTo uses i most found → MatchOption found (HasNoGarbage uses) (IsMostGarbage uses)
most_of_all uses i most None enough was = λ e u there.
    let le : garbage u ≤ most = was.each e u there (inside uses i enough e u there) in
    let none : most ≡ 0 = was.first in
    omega (arith, le, none)
  where
    inside : (uses : List ExtentUse) (i : ℕ) → length uses ≤ i → (k : ℕ) (u : ExtentUse) → slice_get uses k ≡ Some u → k < i
    inside uses i enough k u there = omega (arith, enough, slice_get_within uses k u there)
most_of_all uses i most (Some e) enough was =
    let f : IsFirst uses most e = was.first in
    record {
      its = f.0;
      there = f.1;
      some = omega (arith, f.2, f.3);
      most = λ k u there. (
          let le : garbage u ≤ most = was.each k u there (omega (arith, enough, slice_get_within uses k u there)) in
          elim (cases_lt (garbage u) (garbage f.0)) [
            | inl lt ↦ inl lt
            | inr ge ↦ inr (
              omega (arith, ge, le, f.2),
              elim (cases_lt k e) [
                | inl before ↦ absurd (let less : garbage u < most = f.4 k u there before in omega (arith, less, ge, f.2))
                | inr behind ↦ behind
              ],
            )
          ]);
    }
