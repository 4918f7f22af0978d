-- Lists in another order.
use Rattle.std.proofs.Common.{Result, IfOk, Ok, Err, ◌≡◌, ◌≢◌, ◌∙◌, ℕ, ◌+◌, ◌-◌, ◌<◌, ◌≤◌, ◌⊎◌, List, length, get_or, swap, Some, slice_get, refl, sym, ap, subst, inl, inr, ⊎_elim, arith, IsPermutation}
use Rattle.std.proofs.lemmas.Bool.{cases_lt, cases_eq}
use Rattle.std.proofs.lemmas.List.Edits.{Swapped, swapped_from_swap, length-swap}
use Rattle.std.proofs.lemmas.List.Sorted.{IsPermutation-sym, IsPermutation-keeps, Contains-permutation}
use Rattle.std.proofs.lemmas.Option.{slice_get-get_or, same_Some}
use Rattle.cs_deps.specs.declared.elements.Element.{Element}
use Rattle.cs_deps.specs.declared.elements.Element.TheVariants.{Plain, Version}
use Rattle.cs_deps.specs.Named.{Named}
use Rattle.cs_deps.proofs.Within.{below_next}
use Rattle.cs_check.specs.Listing.{IsOnce}
use Rattle.cs_check.specs.Documents.{NamesThese}
use Rattle.cs_check.specs.Progress.{IsBelow}

either_way : (xs : List Element) → IsOnce xs → (i j : ℕ) (d : Element) → i < length xs → j < length xs → get_or xs i d ≡ get_or xs j d → i ≡ j
either_way xs h i j d p q e =
    let not_below : i < j → ⊥ = λ less. h i j d less q e in
    let not_above : j < i → ⊥ = λ less. h j i d less p (sym e) in
    omega arith

-- where a swap of a and b took the element at m from
abbrev From : ℕ → ℕ → ℕ → ℕ → Type 0
From a b m k = ((m ≡ a) × (k ≡ b)) ⊎ (((m ≡ b) × (k ≡ a)) ⊎ ((m ≢ a) × (m ≢ b) × (k ≡ m)))

origin : (f g : ℕ → Element) (a b m : ℕ) → Swapped f g a b → (m ≡ a) ⊎ (m ≢ a) → (m ≡ b) ⊎ (m ≢ b) → (k : ℕ) × From a b m k × (g m ≡ f k)
origin f g a b m s (inl e) y = (b, inl (e, refl), ap g e ∙ s.0)
origin f g a b m s (inr n) (inl e) = (a, inr (inl (e, refl)), ap g e ∙ s.1)
origin f g a b m s (inr n) (inr o) = (m, inr (inr (n, o, refl)), s.2 m n o)

once_swapped : (xs : List Element) (a b : ℕ) → a < length xs → b < length xs → IsOnce xs → IsOnce (swap xs a b)
once_swapped xs a b p q h i j d less within e =
    let len = length-swap xs a b in
    let s = swapped_from_swap xs (swap xs a b) a b d p q refl in
    let x = origin _ _ a b i s (cases_eq i a) (cases_eq i b) in
    let y = origin _ _ a b j s (cases_eq j a) (cases_eq j b) in
    let same = either_way xs h x.0 y.0 d (omega (arith, x.1)) (omega (arith, y.1)) (sym x.2 ∙ e ∙ y.2) in
    omega (arith, x.1, y.1)

pub once_permuted : (xs ys : List Element) → IsPermutation xs ys → IsOnce xs → IsOnce ys
once_permuted xs ys moved h = IsPermutation-keeps xs IsOnce h once_swapped ys moved

pub once_permuted_back : (xs ys : List Element) → IsPermutation xs ys → IsOnce ys → IsOnce xs
once_permuted_back xs ys moved h = once_permuted ys xs (IsPermutation-sym xs ys moved) h

pub these_permuted : (d : Named) (xs ys : List Element) → IsPermutation xs ys → NamesThese d ys → NamesThese d xs
these_permuted d xs ys moved these y = (
  (λ n. let c = (these y).0 n in (c.0, Contains-permutation ys xs c.0 (IsPermutation-sym xs ys moved) c.1, c.2)),
  (λ c. (these y).1 (c.0, Contains-permutation xs ys c.0 moved c.1, c.2)),
)

pub these_ok : {E : Type 0} (r : Result Named E) (xs ys : List Element) → IsPermutation xs ys → IfOk r (λ d. NamesThese d ys) → IfOk r (λ d. NamesThese d xs)
these_ok (Ok d) xs ys moved these = these_permuted d xs ys moved these
these_ok (Err e) xs ys moved these = tt

below_through : (x y z : Element) → IsBelow x y → IsBelow y z → IsBelow x z
below_through (Plain m) (Plain n) (Plain o) a b = omega (arith, a, b)
below_through (Version f v) (Version g w) (Version h u) a b = ⊎_elim
    (λ (l : f < g). inl (⊎_elim (λ (m : g < h). omega (arith, l, m)) (λ (e : (g ≡ h) × (w < u)). omega (arith, l, e.0)) b))
    (λ (e : (f ≡ g) × (v < w)). ⊎_elim (λ (m : g < h). inl (omega (arith, e.0, m))) (λ (i : (g ≡ h) × (w < u)). inr (e.0 ∙ i.0, omega (arith, e.1, i.1))) b)
    a
below_through (Version f v) (Version g w) (Plain o) a b = tt
below_through (Version f v) (Plain n) (Plain o) a b = tt
below_through (Plain m) (Version g w) z a b = absurd a
below_through (Version f v) (Plain n) (Version h u) a b = absurd b
below_through (Plain m) (Plain n) (Version h u) a b = absurd b

not_below_itself : (x : Element) → IsBelow x x → ⊥
not_below_itself (Plain n) b = omega (arith, b)
not_below_itself (Version f v) b = ⊎_elim (λ (l : f < f). omega (arith, l)) (λ (e : (f ≡ f) × (v < v)). omega (arith, e.1)) b

-- each of the first i elements is below those of them after it
abbrev pub AscendTo : List Element → ℕ → Type 0
AscendTo xs i = (j k : ℕ) (x y : Element) → j < k → k < i → slice_get xs j ≡ Some x → slice_get xs k ≡ Some y → IsBelow x y

pub ascend_next : (xs : List Element) (i : ℕ) (x y : Element) → 1 ≤ i → slice_get xs (i - 1) ≡ Some x → slice_get xs i ≡ Some y → IsBelow x y → AscendTo xs i → AscendTo xs (i + 1)
ascend_next xs i x y le at there below before j k u w less lt here more =
    ⊎_elim
    (λ (l : k < i). before j k u w less l here more)
    (λ (s : k ≡ i).
    let last : w ≡ y = same_Some w y (sym more ∙ ap (λ n. slice_get xs n) s ∙ there) in
    subst (λ z. IsBelow u z) (sym last)
    (⊎_elim
    (λ (l : j < i - 1). below_through u x y (before j (i - 1) u x l (omega (arith, le)) here at) below)
    (λ (e : i - 1 ≤ j).
    let place : j ≡ i - 1 = omega (arith, e, less, s) in
    let first : u ≡ x = same_Some u x (sym here ∙ ap (λ n. slice_get xs n) place ∙ at) in
    subst (λ z. IsBelow z y) (sym first) below)
    (cases_lt j (i - 1))))
    (below_next k i lt)

pub ascend_once : (xs : List Element) (i : ℕ) → length xs ≤ i → AscendTo xs i → IsOnce xs
ascend_once xs i le ascend j k d less within same =
    let at : slice_get xs j ≡ Some (get_or xs j d) = slice_get-get_or xs j d (omega arith) in
    let there : slice_get xs k ≡ Some (get_or xs k d) = slice_get-get_or xs k d within in
    not_below_itself (get_or xs k d) (subst (λ z. IsBelow z (get_or xs k d)) same (ascend j k (get_or xs j d) (get_or xs k d) less (omega (arith, le, within)) at there))
