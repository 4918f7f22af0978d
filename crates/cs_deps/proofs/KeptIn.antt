-- What a list keeps at a number.
use Rattle.std.proofs.Common.{◌≡◌, ◌≢◌, ℕ, zero, suc, ◌+◌, ◌<◌, ◌≤◌, ◌⊎◌, Bool, true, false, List, [], ◌∷◌, ◌++◌, length, get_or, Option, Some, None, slice_get, refl, sym, ap, ◌∙◌, inl, inr, ⊎_elim, arith}
use Rattle.std.specs.Prelude.{if◌then◌else◌, nat_lt, ◌==◌, ◌-◌, option_map}
use Rattle.std.specs.declared.collections.VecDeque.{VecDeque}
use Rattle.std.specs.Global.{Global}
use Rattle.std.proofs.lemmas.Bool.{cases_lt}
use Rattle.std.proofs.lemmas.Bool.Decides.{nat_tests}
use Rattle.std.proofs.lemmas.Option.{same_Some, slice_get_within}
use Rattle.cs_deps.specs.declared.levels.Kept.{Kept}
use Rattle.cs_deps.specs.declared.levels.Levels.{Levels}
use Rattle.cs_deps.specs.declared.elements.Element.TheVariants.{Plain, Version}
use Rattle.cs_deps.specs.declared.elements.Element.{Element}
use Rattle.cs_deps.specs.Levels.{kept_in, family_at, level_of, level_by, relinked, with_next}
use Rattle.cs_deps.proofs.Settled.{same_family}
use Rattle.cs_deps.proofs.Kept.{at_end}

pub family_here : (qs : List (VecDeque Kept Global)) (f : ℕ) (q : VecDeque Kept Global) → slice_get qs f ≡ Some q → family_at qs f ≡ q.items
family_here [] f q at = absurd (cc at)
family_here (p ∷ qs) zero q at = ap (λ u. u.items) (same_Some p q at)
family_here (p ∷ qs) (suc f) q at = family_here qs f q at

pub family_past : (qs : List (VecDeque Kept Global)) (f : ℕ) → length qs ≤ f → family_at qs f ≡ []
family_past [] f le = refl
family_past (p ∷ qs) zero le = absurd (omega (arith, le))
family_past (p ∷ qs) (suc f) le = family_past qs f (omega (arith, le))

-- where a number lies: at a place of the list, or before it begins
pub in_at : (xs : List Kept) (start n k : ℕ) → start + k + 1 ≡ n → kept_in xs start n ≡ slice_get xs k
in_at xs start n k is =
    let up : nat_lt start n ≡ true = grind (arith, nat_tests) in
    let place : n - start - 1 ≡ k = omega (arith, is) in
    ap (λ b. if b then slice_get xs (n - start - 1) else None) up ∙ ap (slice_get xs) place

pub in_before : (xs : List Kept) (start n : ℕ) → n ≤ start → kept_in xs start n ≡ None
in_before xs start n le =
    let down : nat_lt start n ≡ false = grind (arith, nat_tests) in
    ap (λ b. if b then slice_get xs (n - start - 1) else None) down

pub none_in : (start n : ℕ) → kept_in [] start n ≡ None
none_in start n = ⊎_elim
    (λ (l : start < n). let is : start + (n - start - 1) + 1 ≡ n = omega (arith, l) in in_at [] start n (n - start - 1) is)
    (λ (l : n ≤ start). in_before [] start n l)
    (cases_lt start n)

-- one more
pub in_pushed : (xs : List Kept) (x : Kept) (start n : ℕ) → n ≡ start + length xs + 1 → kept_in (xs ++ x ∷ []) start n ≡ Some x
in_pushed xs x start n is = in_at (xs ++ x ∷ []) start n (length xs) (sym is) ∙ at_end xs x

push_other : (xs : List Kept) (x : Kept) (k : ℕ) → k ≢ length xs → slice_get (xs ++ x ∷ []) k ≡ slice_get xs k
push_other [] x zero ne = absurd (ne refl)
push_other [] x (suc k) ne = refl
push_other (y ∷ xs) x zero ne = refl
push_other (y ∷ xs) x (suc k) ne = push_other xs x k (λ e. ne (ap suc e))

pub in_kept : (xs : List Kept) (x : Kept) (start n : ℕ) → n ≢ start + length xs + 1 → kept_in (xs ++ x ∷ []) start n ≡ kept_in xs start n
in_kept xs x start n ne = ⊎_elim
    (λ (l : start < n).
    let k : ℕ = n - start - 1 in
    let is : start + (n - start - 1) + 1 ≡ n = omega (arith, l) in
    in_at (xs ++ x ∷ []) start n (n - start - 1) is ∙ push_other xs x (n - start - 1) (λ e. ne (let s : n ≡ start + length xs + 1 = omega (arith, e, l) in s)) ∙ sym (in_at xs start n (n - start - 1) is))
    (λ (l : n ≤ start). in_before (xs ++ x ∷ []) start n l ∙ sym (in_before xs start n l))
    (cases_lt start n)

pub level_past : (l : Levels) (f v : ℕ) → length l.versions.items ≤ f → level_by l (Version f v) ≡ 0
level_past l f v le = ap level_of (ap (λ xs. kept_in xs (get_or l.starts.items f 0) v) (family_past l.versions.items f le) ∙ none_in (get_or l.starts.items f 0) v)

pub level_one : (l : Levels) (f v : ℕ) → 0 < level_by l (Version f v) → 1 ≤ v
level_one l f zero up = absurd (let e = ap level_of (in_before (family_at l.versions.items f) (get_or l.starts.items f 0) 0 (omega arith)) in omega (arith, e, up))
level_one l f (suc v) up = omega arith

-- what is kept is kept at a place
pub in_within : (xs : List Kept) (start n : ℕ) (k : Kept) → kept_in xs start n ≡ Some k → (start < n) × (n ≤ start + length xs)
in_within xs start n k is = ⊎_elim
    (λ (l : start < n).
    let at : start + (n - start - 1) + 1 ≡ n = omega (arith, l) in
    let lt : n - start - 1 < length xs = slice_get_within xs (n - start - 1) k (sym (in_at xs start n (n - start - 1) at) ∙ is) in
    (l, omega (arith, l, lt)))
    (λ (l : n ≤ start). absurd (cc (in_before xs start n l, is)))
    (cases_lt start n)

-- a level is that of what is kept
pub kept_from : (o : Option Kept) → 0 < level_of o → (k : Kept) × (o ≡ Some k)
kept_from None up = absurd (omega (arith, up))
kept_from (Some k) up = (k, refl)

-- links leave all but the next
pub relinked_level : (a b : ℕ) (kept : Element → Option Kept) (y : Element) → level_of (relinked a b kept y) ≡ level_of (kept y)
relinked_level a b kept (Plain n) = go (n == a) (kept (Plain n))
  where
    go : (t : Bool) (o : Option Kept) → level_of (if t then option_map (with_next b) o else o) ≡ level_of o
    go true None = refl
    go true (Some k) = refl
    go false o = refl
relinked_level a b kept (Version f v) = refl

pub relinked_none : (a b : ℕ) (kept : Element → Option Kept) (y : Element) → relinked a b kept y ≡ None → kept y ≡ None
relinked_none a b kept (Plain n) is = go (n == a) (kept (Plain n)) is
  where
    go : (t : Bool) (o : Option Kept) → (if t then option_map (with_next b) o else o) ≡ None → o ≡ None
    go true None is = refl
    go true (Some k) is = absurd (cc is)
    go false o is = is
relinked_none a b kept (Version f v) is = is

-- u is k, but that a's next is b
pub record IsRelinked (a b : ℕ) (y : Element) (k u : Kept) : Type 0 where
  pub level : u.level ≡ k.level
  pub before : u.before ≡ k.before
  pub top : u.top ≡ k.top
  pub least : u.least ≡ k.least
  pub key : u.key ≡ k.key
  pub next : (y ≡ Plain a × (u.next ≡ b)) ⊎ ((y ≢ Plain a) × (u.next ≡ k.next))

pub relinked_from : (a b : ℕ) (kept : Element → Option Kept) (y : Element) (u : Kept) → relinked a b kept y ≡ Some u → (k : Kept) × (kept y ≡ Some k) × IsRelinked a b y k u
relinked_from a b kept (Plain n) u is = go (n == a) refl (kept (Plain n)) is
  where
    go : (t : Bool) → (n == a) ≡ t → (o : Option Kept) → (if t then option_map (with_next b) o else o) ≡ Some u → (k : Kept) × (o ≡ Some k) × IsRelinked a b (Plain n) k u
    go true q None is = absurd (cc is)
    go true q (Some k) is =
        let e : with_next b k ≡ u = same_Some (with_next b k) u is in
        let s : n ≡ a = grind (arith, nat_tests) in
        (k, refl, record { level = ap (λ (w : Kept). w.level) (sym e); before = ap (λ (w : Kept). w.before) (sym e); top = ap (λ (w : Kept). w.top) (sym e); least = ap (λ (w : Kept). w.least) (sym e); key = ap (λ (w : Kept). w.key) (sym e); next = inl (ap (λ m. Plain m) s, ap (λ (w : Kept). w.next) (sym e)) })
    go false q None is = absurd (cc is)
    go false q (Some k) is =
        let e : k ≡ u = same_Some k u is in
        let s : n ≢ a = grind (arith, nat_tests) in
        (k, refl, record { level = ap (λ (w : Kept). w.level) (sym e); before = ap (λ (w : Kept). w.before) (sym e); top = ap (λ (w : Kept). w.top) (sym e); least = ap (λ (w : Kept). w.least) (sym e); key = ap (λ (w : Kept). w.key) (sym e); next = inr ((λ m. s (cc m)), ap (λ (w : Kept). w.next) (sym e)) })
relinked_from a b kept (Version f v) u is = (u, is, record { level = refl; before = refl; top = refl; least = refl; key = refl; next = inr ((λ m. absurd (cc m)), refl) })

-- whether it is that plain write
pub is_plain : (n : ℕ) (y : Element) → (y ≡ Plain n) ⊎ (y ≢ Plain n)
is_plain n (Plain m) = ⊎_elim (λ (e : m ≡ n). inl (ap (λ i. Plain i) e)) (λ (ne : m ≢ n). inr (λ e. ne (cc e))) (same_family n m)
is_plain n (Version f v) = inr (λ e. absurd (cc e))

pub is_version : (f v : ℕ) (y : Element) → (y ≡ Version f v) ⊎ (y ≢ Version f v)
is_version f v (Plain m) = inr (λ e. absurd (cc e))
is_version f v (Version g w) = ⊎_elim
    (λ (e : g ≡ f). ⊎_elim (λ (q : w ≡ v). inl (ap (λ i. Version i w) e ∙ ap (λ i. Version f i) q)) (λ (ne : w ≢ v). inr (λ u. ne (cc u))) (same_family v w))
    (λ (ne : g ≢ f). inr (λ u. ne (cc u)))
    (same_family f g)
