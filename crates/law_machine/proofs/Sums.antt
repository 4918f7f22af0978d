-- What the newest entries of an index come to, each as f says of it: at least what any of them counts, and the same where the identifiers
-- have the same.
use Rattle.std.proofs.Common.{◌≡◌, inl, inr, ℕ, zero, suc, ◌+◌, ◌-◌, ◌*◌, ◌≤◌, List, [], ◌∷◌, length, Option, Some, None, le_refl, refl, sym, ap, ◌∙◌, subst, arith}
use Rattle.std.proofs.Math.Nat.{add-mul}
use Rattle.std.proofs.lemmas.Bool.{cases_eq}
use Rattle.law_machine.proofs.Counting.{lookup_here, lookup_there, without, without_here, without_there, without_other}
use Rattle.law_machine.specs.Element.{Entry, Locator}
use Rattle.law_machine.specs.Index.{lookup}

-- the first entry comes in place of what the others have of its identifier
abbrev pub summed : (f : Option (List Locator) → ℕ) → List Entry → ℕ
summed f [] = 0
summed f (x ∷ xs) = (summed f xs - f (lookup x.id xs)) + f (Some x.locators)

gone : (id : ℕ) (xs : List Entry) → lookup id (without id xs) ≡ None
gone id [] = refl
gone id (x ∷ xs) = elim (cases_eq x.id id) [
  | inl is ↦ ap (lookup id) (without_here x xs id is) ∙ gone id xs
  | inr not ↦ ap (lookup id) (without_there x xs id not) ∙ lookup_there x (without id xs) id not ∙ gone id xs
]

no_longer : (id : ℕ) (xs : List Entry) → length (without id xs) ≤ length xs
no_longer id [] = omega arith
no_longer id (x ∷ xs) = elim (cases_eq x.id id) [
  | inl is ↦ (let same : length (without id (x ∷ xs)) ≡ length (without id xs) = ap length (without_here x xs id is) in
      let rest : length (without id xs) ≤ length xs = no_longer id xs in omega arith)
  | inr not ↦ (let same : length (without id (x ∷ xs)) ≡ suc (length (without id xs)) =
      ap length (without_there x xs id not) in
      let rest : length (without id xs) ≤ length xs = no_longer id xs in omega arith)
]

module _ (f : Option (List Locator) → ℕ) (none : f None ≡ 0) where
  -- the sum is what one identifier counts, and that of the rest. n: no fewer than the entries
  apart : (n : ℕ) (xs : List Entry) → length xs ≤ n → (id : ℕ)
      → summed f xs ≡ summed f (without id xs) + f (lookup id xs)
  apart n [] fits id = let z : f None ≡ 0 = none in omega arith
  apart zero (x ∷ xs) fits id = absurd (omega arith)
  apart (suc n) (x ∷ xs) fits id = elim (cases_eq x.id id) [
    | inl is ↦ (let rest : summed f xs ≡ summed f (without id xs) + f (lookup id xs) = apart n xs (omega arith) id in
        let cut : summed f (without id (x ∷ xs)) ≡ summed f (without id xs) = ap (summed f) (without_here x xs id is) in
        let here : f (lookup id (x ∷ xs)) ≡ f (Some x.locators) = ap f (lookup_here x xs id is) in
        let same : f (lookup x.id xs) ≡ f (lookup id xs) = ap (λ (k : ℕ). f (lookup k xs)) is in omega arith)
    | inr not ↦ (let rest : summed f xs ≡ summed f (without id xs) + f (lookup id xs) = apart n xs (omega arith) id in
        let cut : summed f (without id (x ∷ xs)) ≡ (summed f (without id xs) - f (lookup x.id (without id xs))) + f (Some x.locators) =
        ap (summed f) (without_there x xs id not) in
        let there : f (lookup id (x ∷ xs)) ≡ f (lookup id xs) = ap f (lookup_there x xs id not) in
        let same : f (lookup x.id (without id xs)) ≡ f (lookup x.id xs) = ap f (without_other id x.id xs not) in
        let fewer : length (without id xs) ≤ length xs = no_longer id xs in
        let small : summed f (without id xs) ≡ summed f (without x.id (without id xs)) + f (lookup x.id (without id xs)) =
        apart n (without id xs) (omega arith) x.id in omega arith)
  ]

  pub sums_one : (xs : List Entry) (id : ℕ) → f (lookup id xs) ≤ summed f xs
  sums_one xs id = let e : summed f xs ≡ summed f (without id xs) + f (lookup id xs) = apart (length xs) xs (le_refl _) id in
      omega arith

  agreed : (n : ℕ) (xs ys : List Entry) → length xs ≤ n → ((id : ℕ) → f (lookup id xs) ≤ f (lookup id ys))
      → summed f xs ≤ summed f ys
  agreed n [] ys fits same = omega arith
  agreed zero (x ∷ xs) ys fits same = absurd (omega arith)
  agreed (suc n) (x ∷ xs) ys fits same =
      let a : summed f (x ∷ xs) ≡ summed f (without x.id (x ∷ xs)) + f (lookup x.id (x ∷ xs)) =
      apart (suc (length xs)) (x ∷ xs) (le_refl _) x.id in
      let b : summed f ys ≡ summed f (without x.id ys) + f (lookup x.id ys) = apart (length ys) ys (le_refl _) x.id in
      let cut : summed f (without x.id (x ∷ xs)) ≡ summed f (without x.id xs) = ap (summed f) (without_here x xs x.id refl) in
      let fewer : length (without x.id xs) ≤ length xs = no_longer x.id xs in
      let rest : summed f (without x.id xs) ≤ summed f (without x.id ys) = agreed n (without x.id xs) (without x.id ys)
      (omega arith) (λ id. elim (cases_eq id x.id) [
        | inl is ↦ (let z : f None ≡ 0 = none in
            let l : f (lookup id (without x.id xs)) ≡ f None =
            ap f (subst (λ (k : ℕ). lookup k (without x.id xs) ≡ None) (sym is) (gone x.id xs)) in omega arith)
        | inr not ↦ (let l : f (lookup id (without x.id xs)) ≡ f (lookup id (x ∷ xs)) =
            ap f (without_other x.id id xs not ∙ sym (lookup_there x xs id (λ e. not (sym e)))) in
            let r : f (lookup id (without x.id ys)) ≡ f (lookup id ys) = ap f (without_other x.id id ys not) in
            let le : f (lookup id (x ∷ xs)) ≤ f (lookup id ys) = same id in omega arith)
      ]) in
      let here : f (lookup x.id (x ∷ xs)) ≤ f (lookup x.id ys) = same x.id in omega arith

  pub sums_no_more : (xs ys : List Entry) → ((id : ℕ) → f (lookup id xs) ≤ f (lookup id ys)) → summed f xs ≤ summed f ys
  sums_no_more xs ys same = agreed (length xs) xs ys (le_refl _) same

  pub sums_alike : (xs ys : List Entry) → ((id : ℕ) → f (lookup id xs) ≡ f (lookup id ys)) → summed f xs ≡ summed f ys
  sums_alike xs ys same =
      let up : summed f xs ≤ summed f ys = sums_no_more xs ys
      (λ id. let e : f (lookup id xs) ≡ f (lookup id ys) = same id in omega arith) in
      let down : summed f ys ≤ summed f xs = sums_no_more ys xs
      (λ id. let e : f (lookup id xs) ≡ f (lookup id ys) = same id in omega arith) in omega arith

-- what comes to two sums for each entry does so together
pub sums_parts : (f g h : Option (List Locator) → ℕ) → g None ≡ 0 → h None ≡ 0
    → ((o : Option (List Locator)) → f o ≡ g o + h o) → (xs : List Entry) → summed f xs ≡ summed g xs + summed h xs
sums_parts f g h no_g no_h each [] = refl
sums_parts f g h no_g no_h each (x ∷ xs) =
    let rest : summed f xs ≡ summed g xs + summed h xs = sums_parts f g h no_g no_h each xs in
    let before : f (lookup x.id xs) ≡ g (lookup x.id xs) + h (lookup x.id xs) = each (lookup x.id xs) in
    let after : f (Some x.locators) ≡ g (Some x.locators) + h (Some x.locators) = each (Some x.locators) in
    let a : g (lookup x.id xs) ≤ summed g xs = sums_one g no_g xs x.id in
    let b : h (lookup x.id xs) ≤ summed h xs = sums_one h no_h xs x.id in omega arith

-- so does what comes to so many times as much
factored : (a b c d k : ℕ) → d + b ≡ a → (a * k - b * k) + c * k ≡ (d + c) * k
factored a b c d k is =
    let whole : d * k + b * k ≡ a * k = sym (add-mul d b k) ∙ ap (λ (n : ℕ). n * k) is in
    let parts : (d + c) * k ≡ d * k + c * k = add-mul d c k in omega (arith, whole, parts)

pub sums_times : (k : ℕ) (f : Option (List Locator) → ℕ) → f None ≡ 0 → (xs : List Entry)
    → summed (λ (o : Option (List Locator)). f o * k) xs ≡ summed f xs * k
sums_times k f none [] = omega arith
sums_times k f none (x ∷ xs) =
    let one : f (lookup x.id xs) ≤ summed f xs = sums_one f none xs x.id in
    ap (λ (n : ℕ). (n - f (lookup x.id xs) * k) + f (Some x.locators) * k) (sums_times k f none xs)
    ∙ factored (summed f xs) (f (lookup x.id xs)) (f (Some x.locators)) (summed f xs - f (lookup x.id xs)) k (omega arith)
