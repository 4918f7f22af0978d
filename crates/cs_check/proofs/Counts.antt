-- Versions counted along a list, and elements sought in it.
use Rattle.std.proofs.Common.{add-one, ◌≡◌, ◌∙◌, ℕ, zero, suc, ◌+◌, ◌<◌, ◌≤◌, ◌⊎◌, List, [], ◌∷◌, take, Some, slice_get, refl, sym, ap, subst, inl, inr, ⊎_elim, arith, Bool, true, false, cond}
use Rattle.std.specs.Prelude.{count_by}
use Rattle.std.proofs.lemmas.Bool.{cases_eq, eqb-true}
use Rattle.std.proofs.lemmas.List.Sums.{sum_by-cons}
use Rattle.std.proofs.lemmas.Option.{some_pair_parts}
use Rattle.cs_deps.specs.declared.elements.Element.{Element}
use Rattle.cs_deps.specs.declared.elements.Element.TheVariants.{Plain, Version}
use Rattle.cs_deps.specs.Named.{Named}
use Rattle.cs_check.specs.Listing.{is_of}

pub same_or_not : (x y : Element) → (x ≡ y) ⊎ (x ≡ y → ⊥)
same_or_not (Plain m) (Plain n) = ⊎_elim (λ (e : m ≡ n). inl (ap Plain e)) (λ (d : m ≡ n → ⊥). inr (λ e. d (cc e))) (cases_eq m n)
same_or_not (Version f v) (Version g w) =
    ⊎_elim
    (λ (e : f ≡ g). ⊎_elim (λ (s : v ≡ w). inl (cc (e, s))) (λ (d : v ≡ w → ⊥). inr (λ h. d (cc h))) (cases_eq v w))
    (λ (d : f ≡ g → ⊥). inr (λ h. d (cc h)))
    (cases_eq f g)
same_or_not (Plain m) (Version g w) = inr (λ e. cc e)
same_or_not (Version f v) (Plain n) = inr (λ e. cc e)

-- x is listed before place k
abbrev pub Before : List (Element × Named) → ℕ → Element → Type 0
Before xs k x = (j : ℕ) × (d : Named) × (j < k) × (slice_get xs j ≡ Some (x, d))

-- an element is listed before a place, or it is not
pub sought : (xs : List (Element × Named)) (k : ℕ) (x : Element) → Before xs k x ⊎ (Before xs k x → ⊥)
sought xs zero x = inr (λ b. absurd (omega (arith, b.2)))
sought [] (suc k) x = inr (λ b. cc (b.3))
sought (w ∷ ws) (suc k) x =
    ⊎_elim
    (λ (e : w.0 ≡ x). inl (0, w.1, omega arith, ap (λ y. Some (y, w.1)) e))
    (λ (d : w.0 ≡ x → ⊥). ⊎_elim
    (λ (b : Before ws k x). inl (suc b.0, b.1, omega (arith, b.2), b.3))
    (λ (n : Before ws k x → ⊥). inr (λ b. later d n b.0 b.1 b.2 b.3))
    (sought ws k x))
    (same_or_not w.0 x)
  where
    later : (w.0 ≡ x → ⊥) → (Before ws k x → ⊥) → (j : ℕ) (e : Named) → j < suc k → slice_get (w ∷ ws) j ≡ Some (x, e) → ⊥
    later d n zero e lt at = d (some_pair_parts w.0 x w.1 e at).0
    later d n (suc j) e lt at = n (j, e, omega arith, at)

abbrev pub counted : ℕ → ℕ → List (Element × Named) → ℕ
counted f k xs = count_by (λ w. is_of f w.0) (take k xs)

-- one element more at the front
pub counted_cons : (f k : ℕ) (w : Element × Named) (ws : List (Element × Named)) (b : Bool) → is_of f w.0 ≡ b → counted f (suc k) (w ∷ ws) ≡ cond b 1 0 + counted f k ws
counted_cons f k w ws b e = sum_by-cons (λ (w : Element × Named). cond (is_of f w.0) 1 0) w (take k ws) ∙ ap (λ t. cond t 1 0 + counted f k ws) e

-- a version that is listed before place k counts there, and not at its own place
pub counted_past : (f : ℕ) (xs : List (Element × Named)) (j k : ℕ) (x : Element) (d : Named) → j < k → slice_get xs j ≡ Some (x, d) → is_of f x ≡ true → counted f j xs + 1 ≤ counted f k xs
counted_past f [] j k x d lt at is = cc at
counted_past f (w ∷ ws) j zero x d lt at is = absurd (omega arith)
counted_past f (w ∷ ws) zero (suc k) x d lt at is =
    let e = counted_cons f k w ws true (ap (is_of f) (some_pair_parts w.0 x w.1 d at).0 ∙ is) in
    omega (arith, e)
counted_past f (w ∷ ws) (suc j) (suc k) x d lt at is =
    let le = counted_past f ws j k x d (omega arith) at is in
    let e = counted_cons f k w ws (is_of f w.0) refl in
    let h = counted_cons f j w ws (is_of f w.0) refl in
    omega (arith, le, e, h)

-- one more version, where one stands at place k
counted_next : (f : ℕ) (xs : List (Element × Named)) (k : ℕ) (x : Element) (d : Named) → slice_get xs k ≡ Some (x, d) → counted f (suc k) xs ≡ counted f k xs + cond (is_of f x) 1 0
counted_next f [] k x d at = cc at
counted_next f (w ∷ ws) zero x d at =
    let e = counted_cons f 0 w ws (is_of f x) (ap (is_of f) (some_pair_parts w.0 x w.1 d at).0) in
    omega (arith, e)
counted_next f (w ∷ ws) (suc k) x d at =
    let i = counted_next f ws k x d at in
    let e = counted_cons f (suc k) w ws (is_of f w.0) refl in
    let h = counted_cons f k w ws (is_of f w.0) refl in
    omega (arith, i, e, h)

pub counted_one : (f : ℕ) (xs : List (Element × Named)) (k : ℕ) (x : Element) (d : Named) → slice_get xs k ≡ Some (x, d) → counted f (k + 1) xs ≡ counted f k xs + cond (is_of f x) 1 0
counted_one f xs k x d at = subst (λ (n : ℕ). counted f n xs ≡ counted f k xs + cond (is_of f x) 1 0) (sym (add-one k)) (counted_next f xs k x d at)

-- a version that is listed before place k, with c others of its family before it
abbrev pub OneCounted : ℕ → List (Element × Named) → ℕ → ℕ → Type 0
OneCounted f xs k c = (j : ℕ) × (x : Element) × (d : Named) × (j < k) × (slice_get xs j ≡ Some (x, d)) × (is_of f x ≡ true) × (counted f j xs ≡ c)

one_later : (f : ℕ) (w : Element × Named) (ws : List (Element × Named)) (k c : ℕ) (b : Bool) → is_of f w.0 ≡ b → OneCounted f ws k c → OneCounted f (w ∷ ws) (suc k) (cond b 1 0 + c)
one_later f w ws k c b e r = (suc r.0, r.1, r.2, omega (arith, r.3), r.4, r.5, let h = counted_cons f r.0 w ws b e in omega (arith, h, r.6))

one_split : (f : ℕ) (w : Element × Named) (ws : List (Element × Named)) (k : ℕ) → ((c : ℕ) → c < counted f k ws → OneCounted f ws k c) → (b : Bool) → is_of f w.0 ≡ b → (c : ℕ) → c < cond b 1 0 + counted f k ws → OneCounted f (w ∷ ws) (suc k) c
one_split f w ws k rec true e zero lt = (0, w.0, w.1, omega arith, refl, e, refl)
one_split f w ws k rec true e (suc c) lt = subst (OneCounted f (w ∷ ws) (suc k)) (omega arith) (one_later f w ws k c true e (rec c (omega (arith, lt))))
one_split f w ws k rec false e c lt = subst (OneCounted f (w ∷ ws) (suc k)) (omega arith) (one_later f w ws k c false e (rec c (omega (arith, lt))))

-- where more than c versions are listed before place k, one of them has c before it
pub one_counted : (f : ℕ) (xs : List (Element × Named)) (k c : ℕ) → c < counted f k xs → OneCounted f xs k c
one_counted f xs zero c lt = absurd (omega arith)
one_counted f [] (suc k) c lt = absurd (omega arith)
one_counted f (w ∷ ws) (suc k) c lt = one_split f w ws k (λ c lt. one_counted f ws k c lt) (is_of f w.0) refl c (omega (arith, lt, counted_cons f k w ws (is_of f w.0) refl))

-- which family a version is of
pub family_of : (f : ℕ) (x : Element) → is_of f x ≡ true → (v : ℕ) × (x ≡ Version f v)
family_of f (Plain n) e = cc e
family_of f (Version g v) e = (v, ap (λ h. Version h v) (sym (eqb-true f g e)))
