-- How many extents are empty, and the first of them.
use Rattle.std.proofs.Common.{◌≡◌, ◌≢◌, ◌∙◌, ℕ, zero, suc, ◌<◌, ◌≤◌, Bool, true, false, List, length, take, take_all, get_or, refl, sym, ap, subst, ⊎_elim, arith, add-one}
use Rattle.std.specs.Prelude.{◌==◌, if◌then◌else◌, count_by}
use Rattle.std.proofs.lemmas.Bool.Decides.{nat_tests}
use Rattle.std.proofs.lemmas.Bool.{cases_lt}
use Rattle.std.proofs.lemmas.List.Sums.{count_by_more_no, count_by_more_yes}
use Rattle.law_machine.specs.Extents.{empties}
use Rattle.law_machine.specs.Lists.{with}

-- what two tests tell of a number
pub is_zero : (n : ℕ) → (n == 0) ≡ true → n ≡ 0
is_zero n h = grind (arith, nat_tests)

pub is_positive : (n : ℕ) → (n == 0) ≡ false → 0 < n
is_positive n h = grind (arith, nat_tests)

pub positive_test : (n : ℕ) → 0 < n → (n == 0) ≡ false
positive_test n h = grind (arith, nat_tests)

pub zero_test : (n : ℕ) → n ≡ 0 → (n == 0) ≡ true
zero_test n h = grind (arith, nat_tests)

pub empties_same : (f g : ℕ → ℕ) (n : ℕ) → ((d : ℕ) → d < n → f d ≡ g d) → empties f n ≡ empties g n
empties_same f g zero same = refl
empties_same f g (suc n) same =
    let here : f n ≡ g n = same n (omega arith) in
    let rest : empties f n ≡ empties g n = empties_same f g n (λ d lt. same d (omega (arith, lt))) in
    rw here (ap (λ m. if g n == 0 then suc m else m) rest)

-- an extent that isn't empty gets another pointer
pub empties_kept : (f : ℕ → ℕ) (e v n : ℕ) → 0 < f e → 0 < v → empties f n ≡ empties (with f e v) n
empties_kept f e v zero old new = refl
empties_kept f e v (suc n) old new = split (n == e) refl (empties_kept f e v n old new)
  where
    split : (b : Bool) → (n == e) ≡ b → empties f n ≡ empties (with f e v) n → (if f n == 0 then suc (empties f n) else empties f n) ≡ (if with f e v n == 0 then suc (empties (with f e v) n) else empties (with f e v) n)
    split true is rest =
        let same : e ≡ n = grind (arith, nat_tests) in
        let was : (f n == 0) ≡ false = positive_test (f n) (subst (λ k. 0 < f k) same old) in
        let now : (with f e v n == 0) ≡ false = ap (λ b. (if b then v else f n) == 0) is ∙ positive_test v new in
        rw (was, now) rest
    split false is rest =
        let now : (with f e v n == 0) ≡ (f n == 0) = ap (λ b. (if b then v else f n) == 0) is in
        rw (now, rest) refl

-- one extent is empty no more
pub empties_less : (f g : ℕ → ℕ) (n e : ℕ) → e < n → f e ≡ 0 → 0 < g e → ((d : ℕ) → d ≢ e → f d ≡ g d) → empties f n ≡ suc (empties g n)
empties_less f g zero e lt was is others = absurd (omega (arith, lt))
empties_less f g (suc n) e lt was is others = ⊎_elim
    (λ (l : e < n).
    let here : f n ≡ g n = others n (omega (arith, l)) in
    let rest : empties f n ≡ suc (empties g n) = empties_less f g n e l was is others in
    rw (here, rest) (commutes (g n == 0) (empties g n)))
    (λ (l : n ≤ e).
    let same : e ≡ n = omega (arith, l, lt) in
    let old : (f n == 0) ≡ true = zero_test (f n) (subst (λ k. f k ≡ 0) same was) in
    let new : (g n == 0) ≡ false = positive_test (g n) (subst (λ k. 0 < g k) same is) in
    rw (old, new) (ap suc (empties_same f g n (λ d below. others d (omega (arith, below, same))))))
    (cases_lt e n)
  where
    commutes : (b : Bool) (m : ℕ) → (if b then suc (suc m) else suc m) ≡ suc (if b then suc m else m)
    commutes true m = refl
    commutes false m = refl

pub none_empty : (f : ℕ → ℕ) (n : ℕ) → ((d : ℕ) → d < n → 0 < f d) → empties f n ≡ 0
none_empty f zero all = refl
none_empty f (suc n) all =
    let here : (f n == 0) ≡ false = positive_test (f n) (all n (omega arith)) in
    rw here (none_empty f n (λ d lt. all d (omega (arith, lt))))

pub none_are_empty : (f : ℕ → ℕ) (n : ℕ) → empties f n ≡ 0 → (d : ℕ) → d < n → 0 < f d
none_are_empty f zero none d lt = absurd (omega (arith, lt))
none_are_empty f (suc n) none d lt = split (f n == 0) refl (λ rest l. none_are_empty f n rest d l)
  where
    split : (b : Bool) → (f n == 0) ≡ b → (empties f n ≡ 0 → d < n → 0 < f d) → 0 < f d
    split true is ih =
        let more : suc (empties f n) ≡ 0 = subst (λ b. (if b then suc (empties f n) else empties f n) ≡ 0) is none in
        absurd (omega (arith, more))
    split false is ih =
        let rest : empties f n ≡ 0 = subst (λ b. (if b then suc (empties f n) else empties f n) ≡ 0) is none in
        ⊎_elim
        (λ (l : d < n). ih rest l)
        (λ (l : n ≤ d). let same : n ≡ d = omega (arith, l, lt) in subst (λ k. 0 < f k) same (is_positive (f n) is))
        (cases_lt d n)

-- where one is empty, one is the first
pub first_of : (f : ℕ → ℕ) (n : ℕ) → 0 < empties f n → (e : ℕ) × (e < n) × (f e ≡ 0) × ((d : ℕ) → d < e → 0 < f d)
first_of f zero some = absurd (omega (arith, some))
first_of f (suc n) some = ⊎_elim
    (λ (l : 0 < empties f n). let r = first_of f n l in (r.0, omega (arith, r.1), r.2, r.3))
    (λ (l : empties f n ≤ 0). (n, omega arith, split (omega (arith, l)) (f n == 0) refl, none_are_empty f n (omega (arith, l))))
    (cases_lt 0 (empties f n))
  where
    split : empties f n ≡ 0 → (b : Bool) → (f n == 0) ≡ b → f n ≡ 0
    split none true is = is_zero (f n) is
    split none false is =
        let more : 0 < empties f n = subst (λ b. 0 < (if b then suc (empties f n) else empties f n)) is some in
        absurd (omega (arith, more, none))

-- a count over a list of extents
abbrev is_empty : ℕ × ℕ → Bool
is_empty extent = extent.0 == 0

abbrev pointer_in : List (ℕ × ℕ) → ℕ → ℕ
pointer_in xs e = (get_or xs e (0, 0)).0

count_below : (xs : List (ℕ × ℕ)) (n : ℕ) → n ≤ length xs → count_by is_empty (take n xs) ≡ empties (pointer_in xs) n
count_below xs zero le = refl
count_below xs (suc n) le = split (pointer_in xs n == 0) refl (count_below xs n (omega (arith, le)))
  where
    split : (b : Bool) → (pointer_in xs n == 0) ≡ b → count_by is_empty (take n xs) ≡ empties (pointer_in xs) n → count_by is_empty (take (suc n) xs) ≡ empties (pointer_in xs) (suc n)
    split true is rest = rw is (ap (λ k. count_by is_empty (take k xs)) (sym (add-one n)) ∙ count_by_more_yes is_empty xs n (0, 0) (omega (arith, le)) is ∙ add-one (count_by is_empty (take n xs)) ∙ ap suc rest)
    split false is rest = rw is (ap (λ k. count_by is_empty (take k xs)) (sym (add-one n)) ∙ count_by_more_no is_empty xs n (0, 0) (omega (arith, le)) is ∙ rest)

pub count_is : (xs : List (ℕ × ℕ)) → count_by is_empty xs ≡ empties (pointer_in xs) (length xs)
count_is xs =
    let all : take (length xs) xs ≡ xs = take_all (length xs) xs (omega arith) in
    ap (count_by is_empty) (sym all) ∙ count_below xs (length xs) (omega arith)
