-- Two lists side by side.
use Rattle.std.proofs.Common.{◌≡◌, ◌∙◌, ℕ, zero, suc, ◌+◌, ◌<◌, ◌≤◌, List, [], ◌∷◌, ◌++◌, length, get_or, take, refl, sym, ap, subst, arith}
use Rattle.std.specs.List.{AllZip}
use Rattle.std.proofs.lemmas.List.{append-nil, take_all, take_more}
use Rattle.std.proofs.Common.{append_assoc}
use Rattle.law_machine.specs.Formats.{Formats}
use Rattle.law_machine.specs.Index.{joined_bodies}

module _ {A B : Type 0} (R : A → B → Type 0) where
  pub zip_push : (xs : List A) (ys : List B) (x : A) (y : B) → AllZip R xs ys → R x y → AllZip R (xs ++ x ∷ []) (ys ++ y ∷ [])
  zip_push [] [] x y all is = (is, tt)
  zip_push [] (b ∷ ys) x y all is = absurd all
  zip_push (a ∷ xs) [] x y all is = absurd all
  zip_push (a ∷ xs) (b ∷ ys) x y all is = (all.0, zip_push xs ys x y all.1 is)

  pub length_zip : (xs : List A) (ys : List B) → AllZip R xs ys → length xs ≡ length ys
  length_zip [] [] all = refl
  length_zip [] (b ∷ ys) all = absurd all
  length_zip (a ∷ xs) [] all = absurd all
  length_zip (a ∷ xs) (b ∷ ys) all = ap suc (length_zip xs ys all.1)

  pub zip_at : (xs : List A) (ys : List B) (k : ℕ) (d : A) (e : B) → AllZip R xs ys → k < length xs → R (get_or xs k d) (get_or ys k e)
  zip_at [] ys k d e all lt = absurd (omega (arith, lt))
  zip_at (a ∷ xs) [] k d e all lt = absurd all
  zip_at (a ∷ xs) (b ∷ ys) zero d e all lt = all.0
  zip_at (a ∷ xs) (b ∷ ys) (suc k) d e all lt = zip_at xs ys k d e all.1 (omega (arith, lt))

  -- a loop's step, and its end
  pub zip_more : (xs : List A) (ys : List B) (k : ℕ) (x : A) (y : B) → k < length xs → x ≡ get_or xs k x → AllZip R (take k xs) ys → R x y → AllZip R (take (k + 1) xs) (ys ++ y ∷ [])
  zip_more xs ys k x y lt at all is =
      let longer : take k xs ++ x ∷ [] ≡ take (k + 1) xs = ap (λ (a : A). take k xs ++ a ∷ []) at ∙ sym (take_more xs k x lt) in
      subst (λ (zs : List A). AllZip R zs (ys ++ y ∷ [])) longer (zip_push (take k xs) ys x y all is)

  pub zip_all : (xs : List A) (ys : List B) (k : ℕ) → length xs ≤ k → AllZip R (take k xs) ys → AllZip R xs ys
  zip_all xs ys k le all = subst (λ (zs : List A). AllZip R zs ys) (take_all k xs le) all

-- the bytes of one payload more
pub bodies_push : (F : Formats) (cs : List (List ℕ)) (c : List ℕ) → joined_bodies F (cs ++ c ∷ []) ≡ joined_bodies F cs ++ F.body c
bodies_push F [] c = append-nil (F.body c)
bodies_push F (a ∷ cs) c = ap (λ (xs : List ℕ). F.body a ++ xs) (bodies_push F cs c) ∙ sym (append_assoc (F.body a) (joined_bodies F cs) (F.body c))
