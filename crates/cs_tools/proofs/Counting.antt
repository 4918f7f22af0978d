-- How many pages were passed over.
use Rattle.std.proofs.Common.{◌≡◌, ◌≢◌, ◌⊎◌, ◌==◌, ◌<◌, ◌≤◌, ◌+◌, ◌-◌, ◌^◌, ◌∙◌, ℕ, Bool, true, false, true≢false, ap, zero, suc, List, [], ◌∷◌, Some, None, not, eqb-true, get_or, length, take, inl, inr, refl, sym, subst, arith}
use Rattle.std.specs.Prelude.{MatchBool, cond, count_by, if◌then◌else◌, min}
use Rattle.std.proofs.lemmas.List.{take_all}
use Rattle.std.proofs.lemmas.List.Sums.{sum_by_more}
use Rattle.cs_twin.specs.Findings.{held_of, is_halved, passed_over}
use Rattle.cs_twin.specs.Pairs.{half}
use Rattle.cs_twin.specs.declared.findings.Finding.{Finding}
use Rattle.cs_tools.specs.Pages.{AreWhole}

-- so many of these were passed over that none were, or some
abbrev pub IsCountOf : List Finding → ℕ → Type 0
IsCountOf findings n = ((n ≡ 0) × AreWhole findings) ⊎ ((0 < n) × (¬ AreWhole findings))

whole_more : (findings : List Finding) (i : ℕ) (d : Finding) → i < length findings → AreWhole (take i findings) → passed_over (get_or findings i d) ≡ None → AreWhole (take (suc i) findings)
whole_more [] i d lt all is = absurd (omega (arith, lt))
whole_more (f ∷ fs) zero d lt all is = (is, tt)
whole_more (f ∷ fs) (suc i) d lt all is = (all.0, whole_more fs i d (omega (arith, lt)) all.1 is)

whole_less : (findings : List Finding) (i : ℕ) → AreWhole (take (suc i) findings) → AreWhole (take i findings)
whole_less [] zero all = tt
whole_less [] (suc i) all = tt
whole_less (f ∷ fs) zero all = tt
whole_less (f ∷ fs) (suc i) all = (all.0, whole_less fs i all.1)

whole_last : (findings : List Finding) (i : ℕ) (d : Finding) → i < length findings → AreWhole (take (suc i) findings) → passed_over (get_or findings i d) ≡ None
whole_last [] i d lt all = absurd (omega (arith, lt))
whole_last (f ∷ fs) zero d lt all = all.0
whole_last (f ∷ fs) (suc i) d lt all = whole_last fs i d (omega (arith, lt)) all.1

-- one finding more
count_more : (findings : List Finding) (i : ℕ) (d : Finding) (n one m : ℕ) → i < length findings → IsCountOf (take i findings) n
    → ((one ≡ 0) × (passed_over (get_or findings i d) ≡ None)) ⊎ ((one ≡ 1) × (passed_over (get_or findings i d) ≢ None)) → m ≡ min (n + one) (2 ^ 64 - 1) → IsCountOf (take (suc i) findings) m
count_more findings i d n one m lt (inl so_far) (inl is) sum = inl (omega (arith, sum, so_far.0, is.0), whole_more findings i d lt so_far.1 is.1)
count_more findings i d n one m lt (inl so_far) (inr is) sum = inr (omega (arith, sum, so_far.0, is.0), λ all. is.1 (whole_last findings i d lt all))
count_more findings i d n one m lt (inr so_far) is sum = inr (omega (arith, sum, so_far.0), λ all. so_far.1 (whole_less findings i all))

pub counted : (findings : List Finding) (i : ℕ) (d : Finding) (n one m : ℕ) → i < length findings → IsCountOf (take i findings) n
    → ((one ≡ 0) × (passed_over (get_or findings i d) ≡ None)) ⊎ ((one ≡ 1) × (passed_over (get_or findings i d) ≢ None)) → m ≡ min (n + one) (2 ^ 64 - 1) → IsCountOf (take (i + 1) findings) m
counted findings i d n one m lt so_far is sum =
    let next : suc i ≡ i + 1 = omega arith in
    subst (λ (k : ℕ). IsCountOf (take k findings) m) next (count_more findings i d n one m lt so_far is sum)

-- whether there are none
none_or_some : (findings : List Finding) (n : ℕ) → IsCountOf findings n → MatchBool (n == 0) (AreWhole findings) (¬ AreWhole findings)
none_or_some findings n (inl is) = subst (λ (k : ℕ). MatchBool (k == 0) (AreWhole findings) (¬ AreWhole findings)) (sym is.0) is.1
none_or_some findings n (inr is) = go (n == 0) refl
  where
    go : (b : Bool) → (n == 0) ≡ b → MatchBool b (AreWhole findings) (¬ AreWhole findings)
    go true none = let no : n ≡ 0 = eqb-true n 0 none in absurd (omega (arith, no, is.0))
    go false some = is.1

pub all_counted : (findings : List Finding) (i n : ℕ) → length findings ≤ i → IsCountOf (take i findings) n → MatchBool (n == 0) (AreWhole findings) (¬ AreWhole findings)
all_counted findings i n le is = none_or_some findings n (subst (λ (l : List Finding). IsCountOf l n) (take_all i findings le) is)

-- ---- with sections that are lost

zero_is : (n : ℕ) → n ≡ 0 → (n == 0) ≡ true
zero_is n is = ap (λ (k : ℕ). k == 0) is

no_items : (xs : List ℕ) → length xs ≡ 0 → xs ≡ []
no_items [] is = refl
no_items (x ∷ xs) is = absurd (omega (arith, is))

-- whether both counts are 0, by their sum
module _ (A : Type 0) (made : List ℕ) (halves n : ℕ) (sum : n ≡ min (halves + length made) (2 ^ 64 - 1)) where
  none_is : (b : Bool) → (halves == 0) ≡ b → MatchBool b A (¬ A) → n ≡ 0 → A × (made ≡ [])
  none_is true test are none = let no : halves ≡ 0 = eqb-true halves 0 test in (are, no_items made (omega (arith, sum, no, none)))
  none_is false test some none = let no : halves ≡ 0 = omega (arith, sum, none) in absurd (true≢false (sym (zero_is halves no) ∙ test))

  is_none : (b : Bool) → (halves == 0) ≡ b → MatchBool b A (¬ A) → A × (made ≡ []) → n ≡ 0
  is_none true test are all = let no : halves ≡ 0 = eqb-true halves 0 test in let empty : length made ≡ 0 = ap length all.1 in omega (arith, sum, no, empty)
  is_none false test some all = absurd (some all.0)

  pub none_of_both : MatchBool (halves == 0) A (¬ A) → MatchBool (n == 0) (A × (made ≡ [])) (¬ (A × (made ≡ [])))
  none_of_both whole = go (n == 0) refl
    where
      go : (b : Bool) → (n == 0) ≡ b → MatchBool b (A × (made ≡ [])) (¬ (A × (made ≡ [])))
      go true none = none_is (halves == 0) refl whole (eqb-true n 0 none)
      go false some = λ all. true≢false (sym (zero_is n (is_none (halves == 0) refl whole all)) ∙ some)

-- ---- how many there are

halved : (b : Bool) (page one : ℕ) → ((one ≡ 0) × ((if b then Some page else None) ≡ None)) ⊎ ((one ≡ 1) × ((if b then Some page else None) ≢ None)) → one ≡ cond b 1 0
halved true page one (inl h) = absurd (cc h.1)
halved true page one (inr h) = h.0
halved false page one (inl h) = h.0
halved false page one (inr h) = absurd (h.1 refl)

-- one finding more is counted
pub halved_more : (findings : List Finding) (i : ℕ) (d : Finding) (n one m : ℕ) → i < length findings → n ≡ min (count_by is_halved (take i findings)) (2 ^ 64 - 1)
    → ((one ≡ 0) × (passed_over (get_or findings i d) ≡ None)) ⊎ ((one ≡ 1) × (passed_over (get_or findings i d) ≢ None)) → m ≡ min (n + one) (2 ^ 64 - 1) → m ≡ min (count_by is_halved (take (i + 1) findings)) (2 ^ 64 - 1)
halved_more findings i d n one m lt so_far is sum =
    let it = get_or findings i d in
    let is_one : one ≡ cond (is_halved it) 1 0 = halved (is_halved it) (half it.pair (not (held_of it).turned)) one is in
    let more : count_by is_halved (take (i + 1) findings) ≡ count_by is_halved (take i findings) + cond (is_halved it) 1 0 = sum_by_more (λ x. cond (is_halved x) 1 0) findings i d lt in
    omega (arith, so_far, is_one, more, sum)

pub all_halved : (findings : List Finding) (i n : ℕ) → length findings ≤ i → n ≡ min (count_by is_halved (take i findings)) (2 ^ 64 - 1) → n ≡ min (count_by is_halved findings) (2 ^ 64 - 1)
all_halved findings i n le is = subst (λ (l : List Finding). n ≡ min (count_by is_halved l) (2 ^ 64 - 1)) (take_all i findings le) is

-- a sum of what is counted up to the end, counted up to the end
pub both_counted : (all some more n : ℕ) → some ≡ min all (2 ^ 64 - 1) → n ≡ min (some + more) (2 ^ 64 - 1) → n ≡ min (all + more) (2 ^ 64 - 1)
both_counted all some more n is sum = omega (arith, is, sum)
