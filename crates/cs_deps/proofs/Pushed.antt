-- One element more is kept.
use Rattle.std.proofs.Common.{◌≡◌, ◌≢◌, ℕ, zero, suc, ◌+◌, ◌<◌, ◌≤◌, Bool, true, false, List, [], ◌∷◌, ◌++◌, length, set, get_or, max, Option, Some, None, length-append, refl, sym, ap, ◌∙◌, subst, ⊎_elim, arith, get_or-set_same, get_or-set_other}
use Rattle.std.specs.Prelude.{nat_le, nat_lt, ◌&&◌, if◌then◌else◌, ◌==◌, option_map, Vec, All}
use Rattle.std.specs.declared.collections.VecDeque.{VecDeque}
use Rattle.std.specs.VecDeque.{deque_len, deque_capacity}
use Rattle.std.specs.Global.{Global}
use Rattle.std.proofs.lemmas.List.Elements.{All-set, All-get_or}
use Rattle.std.proofs.lemmas.Option.{slice_get_read}
use Rattle.cs_deps.specs.declared.elements.Element.{Element}
use Rattle.cs_deps.specs.declared.elements.Element.TheVariants.{Plain, Version}
use Rattle.cs_deps.specs.declared.levels.Kept.{Kept}
use Rattle.cs_deps.specs.declared.levels.Row.{Row}
use Rattle.cs_deps.specs.declared.levels.Levels.{Levels}
use Rattle.std.proofs.lemmas.Bool.Decides.{nat_tests}
use Rattle.cs_deps.specs.Levels.{level_of, next_version, kept_in, kept_by, no_row, row_at, family_at, relinked, with_next, next_plain, with_plain, with_version, AreRowsBut, IsPlainPushed, IsVersionPushed}
use Rattle.cs_deps.proofs.KeptIn.{in_pushed, in_kept, family_here}
use Rattle.cs_deps.proofs.Settled.{same_family}

length_set : {X : Type 0} (xs : List X) (i : ℕ) (x : X) → length (set xs i x) ≡ length xs
length_set [] i x = refl
length_set (y ∷ xs) zero x = refl
length_set (y ∷ xs) (suc i) x = ap suc (length_set xs i x)

pub rows_but : (old mid : List Row) (i : ℕ) (r : Row) → ((j : ℕ) → row_at mid j ≡ row_at old j) → length mid ≡ max (length old) (i + 1) → AreRowsBut old (set mid i r) i r
rows_but old mid i r same count = record {
  here = get_or-set_same mid i r no_row (omega (arith, count));
  others = λ j ne. get_or-set_other mid i j r no_row ne ∙ same j;
  count = length_set mid i r ∙ count;
}

pub plain_pushed : (l : Levels) (p : VecDeque Kept Global) (r : VecDeque Row Global) (linked : List Kept) (mid : List Row) (n i : ℕ) (k : Kept) (before : Option Element) (key : ℕ) → n ≡ l.dropped + length l.plains.items → p.items ≡ linked ++ k ∷ [] → k ≡ next_plain (kept_in l.plains.items l.dropped n) (n + 1) (l.ended + i + 1) before key → ((m : ℕ) → kept_in linked l.dropped m ≡ (if m == (row_at l.rows.items i).last then option_map (with_next (n + 1)) (kept_in l.plains.items l.dropped m) else kept_in l.plains.items l.dropped m)) → length linked ≡ length l.plains.items → r.items ≡ set mid i (with_plain (n + 1) (row_at l.rows.items i)) → ((j : ℕ) → row_at mid j ≡ row_at l.rows.items j) → length mid ≡ max (length l.rows.items) (i + 1) → IsPlainPushed l (record { ended = l.ended; base = l.base; plains = p; dropped = l.dropped; versions = l.versions; starts = l.starts; rows = r }) n i before key
plain_pushed l p r linked mid n i k before key is more new links count rows same wide = record {
  ended = refl;
  base = refl;
  itself = ap (λ xs. kept_in xs l.dropped (n + 1)) more ∙ in_pushed linked k l.dropped (n + 1) (omega (arith, is, count)) ∙ ap (λ u. Some u) new;
  others = other;
  rows = subst (λ rs. AreRowsBut l.rows.items rs i (with_plain (n + 1) (row_at l.rows.items i))) (sym rows) (rows_but l.rows.items mid i (with_plain (n + 1) (row_at l.rows.items i)) same wide);
  dropped = refl;
  plain_count = ap length more ∙ one_more linked k ∙ ap (λ m. m + 1) count;
  versions = refl;
  starts = refl;
}
  where
    one_more : (xs : List Kept) (x : Kept) → length (xs ++ x ∷ []) ≡ length xs + 1
    one_more xs x = length-append xs (x ∷ [])

    other : (y : Element) → y ≢ Plain (n + 1) → kept_by (record { ended = l.ended; base = l.base; plains = p; dropped = l.dropped; versions = l.versions; starts = l.starts; rows = r }) y ≡ relinked (row_at l.rows.items i).last (n + 1) (kept_by l) y
    other (Plain m) ne =
        let apart : m ≢ l.dropped + length linked + 1 = (λ e. ne (ap (λ u. Plain u) (let s : m ≡ n + 1 = omega (arith, e, is, count) in s))) in
        ap (λ xs. kept_in xs l.dropped m) more ∙ in_kept linked k l.dropped m apart ∙ links m
    other (Version f v) ne = refl

-- one family's list is another
pub family_set : (qs : List (VecDeque Kept Global)) (f : ℕ) (q : VecDeque Kept Global) → f < length qs → family_at (set qs f q) f ≡ q.items
family_set [] f q lt = absurd (omega (arith, lt))
family_set (p ∷ qs) zero q lt = refl
family_set (p ∷ qs) (suc f) q lt = family_set qs f q (omega (arith, lt))

pub family_other : (qs : List (VecDeque Kept Global)) (f g : ℕ) (q : VecDeque Kept Global) → g ≢ f → family_at (set qs f q) g ≡ family_at qs g
family_other [] f g q ne = refl
family_other (p ∷ qs) zero zero q ne = absurd (ne refl)
family_other (p ∷ qs) zero (suc g) q ne = refl
family_other (p ∷ qs) (suc f) zero q ne = refl
family_other (p ∷ qs) (suc f) (suc g) q ne = family_other qs f g q (λ e. ne (ap suc e))

pub version_pushed : (l : Levels) (qs : Vec (VecDeque Kept Global) Global) (r : VecDeque Row Global) (q : VecDeque Kept Global) (mid : List Row) (f v i : ℕ) (k : Kept) → f < length l.versions.items → v ≡ get_or l.starts.items f 0 + length (family_at l.versions.items f) → k.level ≡ l.ended + i + 1 → q.items ≡ family_at l.versions.items f ++ k ∷ [] → qs.items ≡ set l.versions.items f q → r.items ≡ set mid i (with_version f (v + 1) (row_at l.rows.items i)) → ((j : ℕ) → row_at mid j ≡ row_at l.rows.items j) → length mid ≡ max (length l.rows.items) (i + 1) → IsVersionPushed l (record { ended = l.ended; base = l.base; plains = l.plains; dropped = l.dropped; versions = qs; starts = l.starts; rows = r }) f v i k
version_pushed l qs r q mid f v i k inside is level more set_it rows same wide = record {
  ended = refl;
  base = refl;
  level = level;
  itself = ap (λ xs. kept_in xs (get_or l.starts.items f 0) (v + 1)) mine ∙ in_pushed (family_at l.versions.items f) k (get_or l.starts.items f 0) (v + 1) (ap (λ n. n + 1) is);
  others = other;
  rows = subst (λ rs. AreRowsBut l.rows.items rs i (with_version f (v + 1) (row_at l.rows.items i))) (sym rows) (rows_but l.rows.items mid i (with_version f (v + 1) (row_at l.rows.items i)) same wide);
  dropped = refl;
  plain_count = refl;
  starts = refl;
  count = ap length set_it ∙ length_set l.versions.items f q;
  here = ap length mine ∙ one_more (family_at l.versions.items f) k;
  there = λ g ne. ap (λ xs. length (family_at xs g)) set_it ∙ ap length (family_other l.versions.items f g q ne);
}
  where
    one_more : (xs : List Kept) (x : Kept) → length (xs ++ x ∷ []) ≡ length xs + 1
    one_more xs x = length-append xs (x ∷ [])

    mine : family_at qs.items f ≡ family_at l.versions.items f ++ k ∷ []
    mine = ap (λ xs. family_at xs f) set_it ∙ family_set l.versions.items f q inside ∙ more

    other : (y : Element) → y ≢ Version f (v + 1) → kept_by (record { ended = l.ended; base = l.base; plains = l.plains; dropped = l.dropped; versions = qs; starts = l.starts; rows = r }) y ≡ kept_by l y
    other (Plain m) ne = refl
    other (Version g w) ne = ⊎_elim
        (λ (e : g ≡ f).
        let apart : w ≢ get_or l.starts.items f 0 + length (family_at l.versions.items f) + 1 = (λ u. ne (ap (λ h. Version h w) e ∙ ap (λ u. Version f u) (let s : w ≡ v + 1 = omega (arith, u, is) in s))) in
        ap (λ h. kept_in (family_at qs.items h) (get_or l.starts.items h 0) w) e ∙ ap (λ xs. kept_in xs (get_or l.starts.items f 0) w) mine ∙ in_kept (family_at l.versions.items f) k (get_or l.starts.items f 0) w apart ∙ ap (λ h. kept_in (family_at l.versions.items h) (get_or l.starts.items h 0) w) (sym e))
        (λ (ne' : g ≢ f). ap (λ xs. kept_in (family_at xs g) (get_or l.starts.items g 0) w) set_it ∙ ap (λ xs. kept_in xs (get_or l.starts.items g 0) w) (family_other l.versions.items f g q ne'))
        (same_family f g)

-- the level of a version behind the last one
pub next_range : (o : Option Kept) (base level ended top : ℕ) (before : Option Element) → level_of o ≤ top → ended ≤ base → ended < level → level ≤ top + 1 → (ended < (next_version o base level before).level) × ((next_version o base level before).level ≤ top + 1)
next_range None base level ended top before a b c d = (c, d)
next_range (Some k) base level ended top before a b c d = split (nat_le level k.level) (nat_lt base k.level) refl
  where
    own : Kept
    own = record { level = level; before = before; next = 0; top = 0; least = 0; key = 0 }

    split : (p q : Bool) → nat_lt base k.level ≡ q → (ended < (if p && q then k else own).level) × ((if p && q then k else own).level ≤ top + 1)
    split true true is = let up : base < k.level = grind (arith, nat_tests) in (omega (arith, up, b), omega (arith, a))
    split true false is = (c, d)
    split false q is = (c, d)

-- one family's list has more room
module _ (qs : List (VecDeque Kept Global)) (f : ℕ) (q r : VecDeque Kept Global) (inside : f < length qs) (at : q ≡ get_or qs f q) (items : r.items ≡ q.items) (len : deque_len r ≡ deque_len q) (more : deque_capacity q ≤ deque_capacity r) where
  pub lists_kept : (g : ℕ) → family_at (set qs f r) g ≡ family_at qs g
  lists_kept g = ⊎_elim
      (λ (e : g ≡ f). ap (family_at (set qs f r)) e ∙ family_set qs f r inside ∙ items ∙ sym (family_here qs f q (slice_get_read qs (length qs) f q refl inside at)) ∙ ap (family_at qs) (sym e))
      (λ (ne : g ≢ f). family_other qs f g r ne)
      (same_family f g)

  pub room_kept : (n : ℕ) → All (λ (p : VecDeque Kept Global). deque_len p + n ≤ deque_capacity p) qs → All (λ (p : VecDeque Kept Global). deque_len p + n ≤ deque_capacity p) (set qs f r)
  room_kept n all =
      let old : deque_len q + n ≤ deque_capacity q = rw at (All-get_or (λ (p : VecDeque Kept Global). deque_len p + n ≤ deque_capacity p) qs f q inside all) in
      All-set (λ (p : VecDeque Kept Global). deque_len p + n ≤ deque_capacity p) qs f r (omega (arith, old, len, more)) all

  pub room_more : (n : ℕ) → ((k : ℕ) (d : VecDeque Kept Global) → k < f → deque_len (get_or qs k d) + n ≤ deque_capacity (get_or qs k d)) → deque_len r + n ≤ deque_capacity r → (k : ℕ) (d : VecDeque Kept Global) → k < f + 1 → deque_len (get_or (set qs f r) k d) + n ≤ deque_capacity (get_or (set qs f r) k d)
  room_more n before here k d lt = ⊎_elim
      (λ (e : k ≡ f). let s : get_or (set qs f r) k d ≡ r = ap (λ i. get_or (set qs f r) i d) e ∙ get_or-set_same qs f r d inside in rw s here)
      (λ (ne : k ≢ f). rw (get_or-set_other qs f k r d ne) (before k d (omega (arith, lt, ne))))
      (same_family f k)

pub no_family_more : (qs : List (VecDeque Kept Global)) (q : VecDeque Kept Global) → q.items ≡ [] → ((f : ℕ) → family_at qs f ≡ []) → (f : ℕ) → family_at (qs ++ q ∷ []) f ≡ []
no_family_more [] q is none zero = is
no_family_more [] q is none (suc f) = refl
no_family_more (p ∷ qs) q is none zero = none 0
no_family_more (p ∷ qs) q is none (suc f) = no_family_more qs q is (λ g. none (suc g)) f
