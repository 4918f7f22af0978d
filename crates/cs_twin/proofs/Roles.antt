-- Where a page is among pairs, and what it shows there.
use Rattle.std.proofs.Common.{◌≡◌, ◌≢◌, ◌⊎◌, inl, inr, ⊎_elim, if◌then◌else◌, ◌==◌, ℕ, zero, suc, ◌+◌, ◌<◌, ◌≤◌, Bool, true, false, List, [], ◌∷◌, Some, slice_get, get_or, take, refl, sym, ◌∙◌, ap, subst, arith}
use Rattle.std.proofs.lemmas.Bool.{cases_eq, cases_lt}
use Rattle.std.proofs.lemmas.Bool.Decides.{nat_tests}
use Rattle.std.proofs.lemmas.Option.{get_or_from_slice_get, same_Some}
use Rattle.cs_disk.specs.Disk.{Image, Write, page}
use Rattle.cs_twin.specs.declared.pairs.Pair.{Pair}
use Rattle.cs_twin.specs.Pairs.{ArePairs, Versions, blank, half, is_turned, shown_half, shown_page, shown_write}

-- the two cases of a test
pub if_same : {A : Type 0} (p : ℕ) (x y : A) → (if p == p then x else y) ≡ x
if_same p x y = grind (arith, nat_tests)

pub if_other : {A : Type 0} (q p : ℕ) (x y : A) → (q ≡ p → ⊥) → (if q == p then x else y) ≡ y
if_other q p x y other = grind (arith, nat_tests)

pub if_is : {A : Type 0} (q p : ℕ) (x y : A) → q ≡ p → (if q == p then x else y) ≡ x
if_is q p x y same = grind (arith, nat_tests)

pub others : (y : Pair) (pairs : List Pair) (n : ℕ) → ArePairs (y ∷ pairs) n → ArePairs pairs n
others y pairs n are = record {
  inside = λ k x twin at. are.inside (suc k) x twin at;
  apart = λ i j x z b c at_i at_j same. let both = are.apart (suc i) (suc j) x z b c at_i at_j same in (omega (arith, both.0), both.1);
}

-- the first of pairs has no half of a later one
pub first_apart : (y : Pair) (pairs : List Pair) (n : ℕ) → ArePairs (y ∷ pairs) n → (k : ℕ) (x : Pair) (b c : Bool) → slice_get pairs k ≡ Some x → half y b ≡ half x c → ⊥
first_apart y pairs n are k x b c at same = let both = are.apart 0 (suc k) y x b c refl at same in absurd (omega (arith, both.0))

-- nor are its own two halves one
pub halves_apart : (y : Pair) (pairs : List Pair) (n : ℕ) → ArePairs (y ∷ pairs) n → y.twin ≡ y.page → ⊥
halves_apart y pairs n are same = let both = are.apart 0 0 y y true false refl refl same in let clash : true ≡ false = both.1 in cc

-- No pair has this page.
abbrev pub IsOwn : List Pair → ℕ → Type 0
IsOwn pairs p = (k : ℕ) (x : Pair) (twin : Bool) → slice_get pairs k ≡ Some x → p ≡ half x twin → ⊥

-- or one does
pub record IsHalf (pairs : List Pair) (p : ℕ) : Type 0 where
  pub place : ℕ
  pub pair : Pair
  pub twin : Bool
  pub at : slice_get pairs place ≡ Some pair
  pub is : p ≡ half pair twin

pub role : (pairs : List Pair) (p : ℕ) → IsHalf pairs p ⊎ IsOwn pairs p
role [] p = inr (λ k x twin at is. cc)
role (y ∷ pairs) p = first (cases_eq y.twin p) (cases_eq y.page p) (role pairs p)
  where
    first : (y.twin ≡ p) ⊎ (y.twin ≢ p) → (y.page ≡ p) ⊎ (y.page ≢ p) → IsHalf pairs p ⊎ IsOwn pairs p → IsHalf (y ∷ pairs) p ⊎ IsOwn (y ∷ pairs) p
    first (inl twin) _ _ = inl (record { place = 0; pair = y; twin = true; at = refl; is = sym twin })
    first (inr no_twin) (inl own) _ = inl (record { place = 0; pair = y; twin = false; at = refl; is = sym own })
    first (inr no_twin) (inr no_own) (inl found) = inl (record { place = suc found.place; pair = found.pair; twin = found.twin; at = found.at; is = found.is })
    first (inr no_twin) (inr no_own) (inr none) = inr no
      where
        no : IsOwn (y ∷ pairs) p
        no zero x true at is = no_twin (ap (λ (z : Pair). z.twin) (same_Some y x at) ∙ sym is)
        no zero x false at is = no_own (ap (λ (z : Pair). z.page) (same_Some y x at) ∙ sym is)
        no (suc k) x twin at is = none k x twin at is

module _ (V : Versions) (image : Image) where
  -- what a pair's own page shows
  pub shown_page-own : (pairs : List Pair) (n : ℕ) → ArePairs pairs n → (k : ℕ) (x : Pair) → slice_get pairs k ≡ Some x → shown_page V pairs image x.page ≡ page image (half x (is_turned V image x))
  shown_page-own [] n are k x at = cc
  shown_page-own (y ∷ pairs) n are zero x at =
      subst (λ (z : Pair). shown_page V (y ∷ pairs) image z.page ≡ page image (half z (is_turned V image z))) (same_Some y x at)
      (if_other y.twin y.page _ _ (halves_apart y pairs n are) ∙ if_same y.page _ _)
  shown_page-own (y ∷ pairs) n are (suc k) x at =
      if_other y.twin x.page _ _ (λ e. first_apart y pairs n are k x true false at e)
      ∙ if_other y.page x.page _ _ (λ e. first_apart y pairs n are k x false false at e)
      ∙ shown_page-own pairs n (others y pairs n are) k x at

  -- and its twin
  pub shown_page-twin : (pairs : List Pair) (n : ℕ) → ArePairs pairs n → (k : ℕ) (x : Pair) → slice_get pairs k ≡ Some x → shown_page V pairs image x.twin ≡ blank
  shown_page-twin [] n are k x at = cc
  shown_page-twin (y ∷ pairs) n are zero x at =
      subst (λ (z : Pair). shown_page V (y ∷ pairs) image z.twin ≡ blank) (same_Some y x at) (if_same y.twin _ _)
  shown_page-twin (y ∷ pairs) n are (suc k) x at =
      if_other y.twin x.twin _ _ (λ e. first_apart y pairs n are k x true true at e)
      ∙ if_other y.page x.twin _ _ (λ e. first_apart y pairs n are k x false true at e)
      ∙ shown_page-twin pairs n (others y pairs n are) k x at

  -- any other page shows what it holds
  pub shown_page-none : (pairs : List Pair) (p : ℕ) → IsOwn pairs p → shown_page V pairs image p ≡ page image p
  shown_page-none [] p none = refl
  shown_page-none (y ∷ pairs) p none =
      if_other y.twin p _ _ (λ e. none 0 y true refl (sym e))
      ∙ if_other y.page p _ _ (λ e. none 0 y false refl (sym e))
      ∙ shown_page-none pairs p (λ k x twin at is. none (suc k) x twin at is)

-- what a write shows as: one to no pair as it is
pub shown_write-none : (V : Versions) (pairs : List Pair) (w : Write) → IsOwn pairs w.0 → shown_write V pairs w ≡ w
shown_write-none V [] w none = refl
shown_write-none V (y ∷ pairs) w none =
    if_other y.twin w.0 _ _ (λ e. none 0 y true refl (sym e))
    ∙ if_other y.page w.0 _ _ (λ e. none 0 y false refl (sym e))
    ∙ shown_write-none V pairs w (λ k x twin at is. none (suc k) x twin at is)

-- one to a half as one to its pair
pub shown_write-half : (V : Versions) (pairs : List Pair) (n : ℕ) → ArePairs pairs n → (k : ℕ) (x : Pair) (twin : Bool) (w : Write) → slice_get pairs k ≡ Some x → w.0 ≡ half x twin → shown_write V pairs w ≡ shown_half V x w.1
shown_write-half V [] n are k x twin w at goes = cc
shown_write-half V (y ∷ pairs) n are zero x twin w at goes =
    let same = same_Some y x at in
    by_half twin (ap (λ (z : Pair). half z twin) same ∙ sym goes) ∙ ap (λ (z : Pair). shown_half V z w.1) same
  where
    by_half : (b : Bool) → half y b ≡ w.0 → shown_write V (y ∷ pairs) w ≡ shown_half V y w.1
    by_half true is = if_is y.twin w.0 _ _ is
    by_half false is = if_other y.twin w.0 _ _ (λ e. halves_apart y pairs n are (e ∙ sym is)) ∙ if_is y.page w.0 _ _ is
shown_write-half V (y ∷ pairs) n are (suc k) x twin w at goes =
    if_other y.twin w.0 _ _ (λ e. first_apart y pairs n are k x true twin at (e ∙ goes))
    ∙ if_other y.page w.0 _ _ (λ e. first_apart y pairs n are k x false twin at (e ∙ goes))
    ∙ shown_write-half V pairs n (others y pairs n are) k x twin w at goes

-- one of a whole page, and one of another
pub shown_half-whole : (V : Versions) (x : Pair) (bytes : List ℕ) → 0 < V x.page bytes → shown_half V x bytes ≡ (x.page, bytes)
shown_half-whole V x bytes some = if_other (V x.page bytes) 0 _ _ (λ e. absurd (omega (arith, some, e)))

pub shown_half-none : (V : Versions) (x : Pair) (bytes : List ℕ) → V x.page bytes ≡ 0 → shown_half V x bytes ≡ (x.twin, blank)
shown_half-none V x bytes none = if_is (V x.page bytes) 0 _ _ none

-- an element of a front of a list
slice_get-take : {A : Type 0} (n : ℕ) (xs : List A) (j : ℕ) (x : A) → slice_get (take n xs) j ≡ Some x → (j < n) × (slice_get xs j ≡ Some x)
slice_get-take zero xs j x at = cc
slice_get-take (suc n) [] j x at = cc
slice_get-take (suc n) (y ∷ xs) zero x at = (omega arith, at)
slice_get-take (suc n) (y ∷ xs) (suc j) x at = let more = slice_get-take n xs j x at in (omega (arith, more.0), more.1)

take-slice_get : {A : Type 0} (n : ℕ) (xs : List A) (j : ℕ) (x : A) → j < n → slice_get xs j ≡ Some x → slice_get (take n xs) j ≡ Some x
take-slice_get zero xs j x lt at = absurd (omega (arith, lt))
take-slice_get (suc n) [] j x lt at = cc
take-slice_get (suc n) (y ∷ xs) zero x lt at = at
take-slice_get (suc n) (y ∷ xs) (suc j) x lt at = take-slice_get n xs j x (omega (arith, lt)) at

-- one pair more that has no half here
pub own_more : (pairs : List Pair) (p k : ℕ) (d : Pair) → IsOwn (take k pairs) p → ((get_or pairs k d).twin ≡ p → ⊥) → ((get_or pairs k d).page ≡ p → ⊥) → IsOwn (take (k + 1) pairs) p
own_more pairs p k d before no_twin no_own j x twin at is = from (slice_get-take (k + 1) pairs j x at)
  where
    here : (twin : Bool) → j ≡ k → slice_get pairs j ≡ Some x → p ≡ half x twin → ⊥
    here true same at is = no_twin (ap (λ (z : Pair). z.twin) (ap (λ i. get_or pairs i d) (sym same) ∙ get_or_from_slice_get pairs j x d at) ∙ sym is)
    here false same at is = no_own (ap (λ (z : Pair). z.page) (ap (λ i. get_or pairs i d) (sym same) ∙ get_or_from_slice_get pairs j x d at) ∙ sym is)

    from : (j < k + 1) × (slice_get pairs j ≡ Some x) → ⊥
    from found = ⊎_elim (λ (lt : j < k). before j x twin (take-slice_get k pairs j x lt found.1) is) (λ (le : k ≤ j). here twin (omega (arith, le, found.0)) found.1 is) (cases_lt j k)
