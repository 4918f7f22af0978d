-- What damages come to, one after another.
use Rattle.std.proofs.Common.{◌≡◌, ◌∙◌, ◌<◌, ◌≤◌, ◌+◌, ℕ, inl, inr, ⊎_elim, List, [], ◌∷◌, ◌++◌, get_or, length, take, sym, ap, subst, arith}
use Rattle.std.specs.Prelude.{Contains}
use Rattle.std.proofs.lemmas.List.{take_all, take_more}
use Rattle.std.proofs.lemmas.List.Elements.{Contains-append_left, Contains-push, Contains-push_cases}
use Rattle.cs_inspect.specs.declared.scrubs.Damage.{Damage}
use Rattle.cs_doctor.specs.DoctorCounts.{AreNamedBy, Notes}

none_in : {X : Type 0} (x : X) → Contains [] x → ⊥
none_in x h = absurd (omega (arith, h.1))

module _ {X : Type 0} (P : X → Damage → Type 0) where
  pub none_named : AreNamedBy P [] []
  none_named x = (λ h. absurd (none_in x h), λ h. absurd (none_in h.0 h.1))

  pub none_named_in : (xs : List X) → xs ≡ [] → AreNamedBy P [] xs
  none_named_in xs none = subst (AreNamedBy P []) (sym none) none_named

  -- one more is noted
  pub noted_push : (d : Damage) (x : X) (xs ys : List X) → P x d → ((y : X) → P y d → x ≡ y) → ys ≡ xs ++ x ∷ [] → Notes P d xs ys
  noted_push d x xs ys is only new = subst (λ (l : List X). Notes P d xs l) (sym new) (λ y. (
    λ h. ⊎_elim (λ (c : Contains xs y). inl c) (λ (same : x ≡ y). inr (subst (λ (z : X). P z d) same is)) (Contains-push_cases xs x y h),
    λ h. ⊎_elim (λ (c : Contains xs y). Contains-append_left xs (x ∷ []) y c) (λ (p : P y d). subst (λ (z : X). Contains (xs ++ x ∷ []) z) (only y p) (Contains-push xs x)) h,
  ))

  -- what it names is there, or it names nothing
  pub noted_still : (d : Damage) (xs ys : List X) → ((y : X) → P y d → Contains xs y) → ys ≡ xs → Notes P d xs ys
  noted_still d xs ys there new = subst (λ (l : List X). Notes P d xs l) (sym new) (λ y. (λ h. inl h, λ h. ⊎_elim (λ (c : Contains xs y). c) (λ (p : P y d). there y p) h))

  named_push : (ds : List Damage) (d : Damage) (xs ys : List X) → AreNamedBy P ds xs → Notes P d xs ys → AreNamedBy P (ds ++ d ∷ []) ys
  named_push ds d xs ys was notes x = (
    λ h. ⊎_elim (λ (c : Contains xs x). let it = (was x).0 c in (it.0, Contains-append_left ds (d ∷ []) it.0 it.1, it.2)) (λ (p : P x d). (d, Contains-push ds d, p)) ((notes x).0 h),
    λ h. (notes x).1 (⊎_elim (λ (c : Contains ds h.0). inl ((was x).1 (h.0, c, h.2))) (λ (same : d ≡ h.0). inr (subst (P x) (sym same) h.2)) (Contains-push_cases ds d h.0 h.1)),
  )

  -- a loop's step, and its end
  pub named_more : (ds : List Damage) (k : ℕ) (d : Damage) (xs ys : List X) → k < length ds → d ≡ get_or ds k d → AreNamedBy P (take k ds) xs → Notes P d xs ys → AreNamedBy P (take (k + 1) ds) ys
  named_more ds k d xs ys lt at was notes =
      let longer : take k ds ++ d ∷ [] ≡ take (k + 1) ds = ap (λ (a : Damage). take k ds ++ a ∷ []) at ∙ sym (take_more ds k d lt) in
      subst (λ (l : List Damage). AreNamedBy P l ys) longer (named_push (take k ds) d xs ys was notes)

  pub named_all : (ds : List Damage) (k : ℕ) (xs : List X) → length ds ≤ k → AreNamedBy P (take k ds) xs → AreNamedBy P ds xs
  named_all ds k xs le was = subst (λ (l : List Damage). AreNamedBy P l xs) (take_all k ds le) was
