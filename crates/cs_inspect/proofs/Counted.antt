-- Figures of an index.
use Rattle.std.proofs.Common.{◌≡◌, ◌∙◌, ◌⊎◌, inl, inr, ⊎_elim, ◌<◌, ◌+◌, ℕ, add-one, List, [], ◌∷◌, ◌++◌, refl, sym, ap, ap₂, arith, get_or, length, map, take}
use Rattle.std.proofs.lemmas.List.{length-map}
use Rattle.cs_frame.specs.Formats.{place_of}
use Rattle.cs_index.specs.declared.stored_runs.StoredRun.{StoredRun}
use Rattle.cs_index.specs.State.{named_entry, newest_first}
use Rattle.cs_index.proofs.Newest.{newest_more}
use Rattle.law_machine.specs.Element.{Locator as Place, Run}
use Rattle.law_machine.specs.Lists.{◌∈◌}
use Rattle.cs_inspect.specs.declared.figures.RunUse.{RunUse}
use Rattle.cs_inspect.specs.Listings.{AreAll, Rising}
use Rattle.cs_inspect.specs.Stats.{newest_uses, run_figure}

rising_tail : (x : ℕ) (xs : List ℕ) → Rising (x ∷ xs) → Rising xs
rising_tail x [] order = tt
rising_tail x (y ∷ ys) order = order.1

rising_above : (x : ℕ) (xs : List ℕ) → Rising (x ∷ xs) → (y : ℕ) → y ∈ xs → x < y
rising_above x [] order y at = absurd at
rising_above x (z ∷ xs) order y (inl is) = (let lt : x < z = order.0 in omega (arith, lt, is))
rising_above x (z ∷ xs) order y (inr at) = (let lt : x < z = order.0 in let more : z < y = rising_above z xs order.1 y at in omega (arith, lt, more))

-- rising numbers are known by which they are
rising_one : (xs ys : List ℕ) → Rising xs → Rising ys → ((z : ℕ) → z ∈ xs → z ∈ ys) → ((z : ℕ) → z ∈ ys → z ∈ xs) → xs ≡ ys
rising_one [] [] a b to from = refl
rising_one [] (y ∷ ys) a b to from = absurd (from y (inl refl))
rising_one (x ∷ xs) [] a b to from = absurd (to x (inl refl))
rising_one (x ∷ xs) (y ∷ ys) a b to from =
    let same : x ≡ y = heads (to x (inl refl)) (from y (inl refl)) in
    ap₂ (λ (n : ℕ) (ns : List ℕ). n ∷ ns) same (rising_one xs ys (rising_tail x xs a) (rising_tail y ys b)
    (λ z at. ⊎_elim (λ (is : z ≡ y). (let lt : x < z = rising_above x xs a z at in absurd (omega (arith, lt, is, same)))) (λ (there : z ∈ ys). there) (to z (inr at)))
    (λ z at. ⊎_elim (λ (is : z ≡ x). (let lt : y < z = rising_above y ys b z at in absurd (omega (arith, lt, is, same)))) (λ (there : z ∈ xs). there) (from z (inr at))))
  where
    heads : (x ≡ y) ⊎ (x ∈ ys) → (y ≡ x) ⊎ (y ∈ xs) → x ≡ y
    heads (inl is) other = is
    heads (inr at) (inl is) = sym is
    heads (inr at) (inr at') = (let lt : y < x = rising_above y ys b x at in let gt : x < y = rising_above x xs a y at' in absurd (omega (arith, lt, gt)))

pub all_one : (is_there : ℕ → Type 0) (xs ys : List ℕ) → AreAll is_there xs → AreAll is_there ys → xs ≡ ys
all_one is_there xs ys a b = rising_one xs ys a.rising b.rising (λ z at. (b.each z).1 ((a.each z).0 at)) (λ z at. (a.each z).1 ((b.each z).0 at))

newest_last : (us : List RunUse) (u : RunUse) → newest_uses (us ++ u ∷ []) ≡ (place_of u.place, u.entries) ∷ newest_uses us
newest_last [] u = refl
newest_last (v ∷ us) u = ap (λ (xs : List (Place × ℕ)). xs ++ (place_of v.place, v.entries) ∷ []) (newest_last us u)

-- one run more
pub runs_more : (rs : List StoredRun) (k : ℕ) (d : StoredRun) (us new : List RunUse) (u : RunUse) → k < length rs → newest_uses us ≡ map run_figure (newest_first (take k rs)) → new ≡ us ++ u ∷ []
    → u.place ≡ (get_or rs k d).place → u.entries ≡ length (get_or rs k d).entries.items → newest_uses new ≡ map run_figure (newest_first (take (k + 1) rs))
runs_more rs k d us new u lt was is place entries =
    ap newest_uses is ∙ newest_last us u
    ∙ ap₂ (λ (h : Place × ℕ) (hs : List (Place × ℕ)). h ∷ hs) (ap₂ (λ (p : Place) (n : ℕ). (p, n)) (ap place_of place) (entries ∙ sym (length-map (get_or rs k d).entries.items named_entry))) was
    ∙ sym (ap (λ (rs : List Run). map run_figure rs) (ap (λ (n : ℕ). newest_first (take n rs)) (add-one k) ∙ newest_more rs k d lt))
