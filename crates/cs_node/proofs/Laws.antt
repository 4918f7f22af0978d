-- What callers need of numbers: of lists that are joined, of numbers that are added, and of those that are all there. How often each number
-- is there says everything, however the stretches are cut.
use Rattle.std.proofs.Common.{◌≡◌, ℕ, zero, suc, ◌+◌, ◌<◌, ◌≤◌, List, [], ◌++◌, cond, refl, sym, ap, ◌∙◌, arith}
use Rattle.std.specs.Prelude.{◌↔◌, ◌==◌}
use Rattle.std.proofs.lemmas.Bool.Decides.{nat_tests}
use Rattle.cs_node.specs.Numbers.{AreNumbers, Gains, GainsAll, Within, lacking, once_to, times}
use Rattle.cs_node.specs.declared.stretches.Stretch.{Stretch}
use Rattle.cs_node.proofs.Times.{times-append}

-- lists that are joined
pub GainsAll-append : (xs ys : List Stretch) → GainsAll xs ys (xs ++ ys)
GainsAll-append xs ys x = times-append x xs ys

pub Within-append : (n : ℕ) (xs ys : List Stretch) → Within n xs → Within n ys → Within n (xs ++ ys)
Within-append n xs ys first second x above = omega (arith, times-append x xs ys, first x above, second x above)

pub Within-parts : (n : ℕ) (xs ys : List Stretch) → Within n (xs ++ ys) → Within n xs × Within n ys
Within-parts n xs ys both = (
  λ x above. omega (arith, times-append x xs ys, both x above),
  λ x above. omega (arith, times-append x xs ys, both x above),
)

-- numbers that are added
pub Within-none : (n : ℕ) → Within n []
Within-none n x above = refl

pub Within-up : (m n : ℕ) (xs : List Stretch) → m ≤ n → Within m xs → Within n xs
Within-up m n xs up none x above = none x (omega arith)

pub Within-gains : (n m : ℕ) (old new : List Stretch) → m ≤ n → Within n old → Gains m old new → Within n new
Within-gains n m old new below none gains x above =
    let now : times x new ≡ times x old + cond (x == m) 1 0 = gains x in
    let before : times x old ≡ 0 = none x above in
    grind (arith, nat_tests)

pub Within-gains_all : (n : ℕ) (old more new : List Stretch) → GainsAll old more new → Within n new ↔ (Within n old × Within n more)
Within-gains_all n old more new gains = (
  λ none. (λ x above. omega (arith, gains x, none x above), λ x above. omega (arith, gains x, none x above)),
  λ (first, second) x above. omega (arith, gains x, first x above, second x above),
)

-- the numbers that are all there
pub AreNumbers-none : AreNumbers 0 []
AreNumbers-none x = grind (arith, nat_tests)

pub AreNumbers-next : (n : ℕ) (old new : List Stretch) → AreNumbers n old → Gains (suc n) old new → AreNumbers (suc n) new
AreNumbers-next n old new all gains x =
    let now : times x new ≡ times x old + cond (x == suc n) 1 0 = gains x in
    let before : times x old ≡ once_to n x = all x in
    grind (arith, nat_tests)

pub AreNumbers-within : (n : ℕ) (xs : List Stretch) → AreNumbers n xs → Within n xs
AreNumbers-within n xs all x above = let is : times x xs ≡ once_to n x = all x in grind (arith, nat_tests)

pub none_lacking : (n most : ℕ) (xs : List Stretch) → n ≤ most → AreNumbers most xs → lacking n xs ≡ 0
none_lacking zero most xs below all = refl
none_lacking (suc n) most xs below all =
    let before : lacking n xs ≡ 0 = none_lacking n most xs (omega arith) all in
    let is : times (suc n) xs ≡ once_to most (suc n) = all (suc n) in
    grind (arith, nat_tests)

-- what counts each number as often as the list has it, as a sum over holders does, tells the same
module _ (xs : List Stretch) (held : ℕ → ℕ) (same : (x : ℕ) → times x xs ≡ held x) where
  pub AreNumbers-held : (n : ℕ) → AreNumbers n xs ↔ ((x : ℕ) → held x ≡ once_to n x)
  AreNumbers-held n = (λ all x. sym (same x) ∙ all x, λ all x. same x ∙ all x)

  pub Within-held : (n : ℕ) → Within n xs ↔ ((x : ℕ) → n < x → held x ≡ 0)
  Within-held n = (λ none x above. sym (same x) ∙ none x above, λ none x above. same x ∙ none x above)

  pub lacking-held : (lacks : ℕ → ℕ) → lacks 0 ≡ 0 → ((n : ℕ) → lacks (suc n) ≡ lacks n + cond (held (suc n) == 0) 1 0) → (n : ℕ) → lacking n xs ≡ lacks n
  lacking-held lacks none next zero = sym none
  lacking-held lacks none next (suc n) =
      let so_far : lacking n xs ≡ lacks n = lacking-held lacks none next n in
      omega (arith, so_far, next n, ap {B = ℕ} (λ often. cond (often == 0) 1 0) (same (suc n)))
