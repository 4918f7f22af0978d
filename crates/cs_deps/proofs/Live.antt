-- Entries that are of use, as elements are staged.
use Rattle.std.proofs.Common.{◌≡◌, ◌∙◌, ◌≢◌, ℕ, zero, suc, ◌+◌, ◌-◌, ◌<◌, ◌≤◌, Bool, true, false, cond, List, [], ◌∷◌, ◌++◌, length, take, get_or, set, Option, Some, slice_get, refl, sym, ap, ⊎_elim, arith, get_or-set_same, get_or-set_other}
use Rattle.std.specs.Prelude.{filter, nat_lt, ◌&&◌}
use Rattle.std.proofs.lemmas.Bool.{cases_lt, lt-ltb}
use Rattle.std.proofs.lemmas.List.Elements.{filter-append}
use Rattle.std.proofs.lemmas.Option.{same_Some}
use Rattle.cs_deps.specs.declared.elements.Element.{Element}
use Rattle.cs_deps.specs.declared.elements.Element.TheVariants.{Plain, Version}
use Rattle.cs_deps.specs.declared.levels.Levels.{Levels}
use Rattle.cs_deps.specs.Named.{Named}
use Rattle.cs_deps.specs.State.{IsListed}
use Rattle.cs_deps.specs.Entries.{full_needs, entry_waits, waiting_of}
use Rattle.cs_deps.specs.Levels.{kept_in, kept_by, level_by, level_of, row_at, entry_live, live_of, AreLive, IsSameBut, IsPlainPushed, IsVersionPushed}
use Rattle.cs_deps.specs.declared.levels.Kept.{Kept}
use Rattle.cs_deps.proofs.Entries.{listed_now, listed_was}
use Rattle.cs_deps.proofs.Filtered.{came_from, filter_keeps}
use Rattle.cs_deps.proofs.Kept.{at_push}
use Rattle.cs_deps.proofs.KeptIn.{relinked_level}
use Rattle.cs_deps.proofs.Settled.{same_family}

-- FILTERS
pub filter_agree : {X : Type 0} (p q : X → Bool) (xs : List X) → ((k : ℕ) (x : X) → slice_get xs k ≡ Some x → p x ≡ q x) → filter p xs ≡ filter q xs
filter_agree p q [] same = refl
filter_agree p q (x ∷ xs) same = ap (λ b. cond b (x ∷ filter p xs) (filter p xs)) (same 0 x refl) ∙ ap (λ ys. cond (q x) (x ∷ ys) ys) (filter_agree p q xs (λ k y at. same (suc k) y at))

-- one filter after another
pub filter_twice : {X : Type 0} (p q r : X → Bool) (xs : List X) → ((k : ℕ) (x : X) → slice_get xs k ≡ Some x → p x ≡ (r x && q x)) → filter p xs ≡ filter q (filter r xs)
filter_twice p q r [] same = refl
filter_twice p q r (x ∷ xs) same = go (r x) (same 0 x refl) (filter_twice p q r xs (λ k y at. same (suc k) y at))
  where
    go : (b : Bool) → p x ≡ (b && q x) → filter p xs ≡ filter q (filter r xs) → cond (p x) (x ∷ filter p xs) (filter p xs) ≡ filter q (cond b (x ∷ filter r xs) (filter r xs))
    go true e rest = ap (λ c. cond c (x ∷ filter p xs) (filter p xs)) e ∙ ap (λ ys. cond (q x) (x ∷ ys) ys) rest
    go false e rest = ap (λ c. cond c (x ∷ filter p xs) (filter p xs)) e ∙ rest

filter_all : {X : Type 0} (p : X → Bool) (xs : List X) → ((k : ℕ) (x : X) → slice_get xs k ≡ Some x → p x ≡ true) → filter p xs ≡ xs
filter_all p [] all = refl
filter_all p (x ∷ xs) all = ap (λ b. cond b (x ∷ filter p xs) (filter p xs)) (all 0 x refl) ∙ ap (λ ys. x ∷ ys) (filter_all p xs (λ k y at. all (suc k) y at))

-- what passes stands behind what passed before it
pub filter_place : {X : Type 0} (p : X → Bool) (xs : List X) (k : ℕ) (x : X) → slice_get xs k ≡ Some x → p x ≡ true → slice_get (filter p xs) (length (filter p (take k xs))) ≡ Some x
filter_place p [] k x at is = absurd (cc at)
filter_place p (y ∷ ys) zero x at is = ap (λ b. slice_get (cond b (y ∷ filter p ys) (filter p ys)) 0) (ap p (same_Some y x at) ∙ is) ∙ at
filter_place {X} p (y ∷ ys) (suc k) x at is = go (p y) (filter_place p ys k x at is)
  where
    go : (b : Bool) → slice_get (filter p ys) (length (filter p (take k ys))) ≡ Some x → slice_get (cond b (y ∷ filter p ys) (filter p ys)) (length (cond b (y ∷ filter p (take k ys)) (filter p (take k ys)))) ≡ Some x
    go true r = r
    go false r = r

-- ENTRIES OF USE
pub live_all : (l : Levels) (floors : List ℕ) (es : List (Element × Named)) → AreLive l floors es → live_of l floors es ≡ es
live_all l floors es all = filter_all (λ (w : Element × Named). entry_live l floors w.0) es (λ k w at. all k w.0 w.1 at)

pub all_live : (l : Levels) (floors : List ℕ) (es : List (Element × Named)) → AreLive l floors (live_of l floors es)
all_live l floors es k x d at = (came_from (λ (w : Element × Named). entry_live l floors w.0) es k (x, d) at).2

-- WHAT WAITS OF THEM
module _ (l : Levels) (floors ps : List ℕ) (es : List (Element × Named)) (x : Element) where
  pub not_waiting : (entry_live l floors x && entry_waits ps x) ≡ false → IsListed (waiting_of ps (live_of l floors es)) x → ⊥
  not_waiting is c =
      let r = listed_was ps (live_of l floors es) c.0 x c.1 c.2 in
      absurd (cc (sym is ∙ ap (λ b. b && entry_waits ps x) (all_live l floors es r.0 x r.1 r.2) ∙ r.3))

  pub never_waiting : (IsListed es x → ⊥) → IsListed (waiting_of ps (live_of l floors es)) x → ⊥
  never_waiting none c =
      let r = listed_was ps (live_of l floors es) c.0 x c.1 c.2 in
      let f = came_from (λ (w : Element × Named). entry_live l floors w.0) es r.0 (x, r.1) r.2 in
      none (f.0, r.1, f.1)

  pub now_waiting : (k : ℕ) (d : Named) → slice_get es k ≡ Some (x, d) → (entry_live l floors x && entry_waits ps x) ≡ true → (m : ℕ) × (slice_get (waiting_of ps (live_of l floors es)) m ≡ Some (x, full_needs (live_of l floors es) x d))
  now_waiting k d at is = go (entry_live l floors x) refl is
    where
      go : (b : Bool) → entry_live l floors x ≡ b → (b && entry_waits ps x) ≡ true → (m : ℕ) × (slice_get (waiting_of ps (live_of l floors es)) m ≡ Some (x, full_needs (live_of l floors es) x d))
      go true live waits = (let r = filter_keeps (λ (w : Element × Named). entry_live l floors w.0) es k (x, d) at live in listed_now ps (live_of l floors es) r.0 x d r.1 waits)
      go false live waits = absurd (cc waits)

-- the levels of the listed plain writes decide
pub live_agree : (l m : Levels) (floors : List ℕ) → m.ended ≡ l.ended → (es : List (Element × Named)) → ((n : ℕ) → IsListed es (Plain n) → level_by m (Plain n) ≡ level_by l (Plain n)) → live_of m floors es ≡ live_of l floors es
live_agree l m floors ended es same = filter_agree (λ (w : Element × Named). entry_live m floors w.0) (λ w. entry_live l floors w.0) es each
  where
    each : (k : ℕ) (w : Element × Named) → slice_get es k ≡ Some w → entry_live m floors w.0 ≡ entry_live l floors w.0
    each k (Plain n, d) at = ap (λ b. nat_lt b (level_by m (Plain n))) ended ∙ ap (λ v. nat_lt l.ended v) (same n (k, d, at))
    each k (Version f v, d) at = refl

-- one entry of use more
live_push : (o l : Levels) (floors : List ℕ) (es : List (Element × Named)) (x : Element) (d : Named) → entry_live o floors x ≡ true → live_of o floors es ≡ live_of l floors es → live_of o floors (es ++ (x, d) ∷ []) ≡ live_of l floors es ++ (x, d) ∷ []
live_push o l floors es x d live same =
    filter-append (λ (w : Element × Named). entry_live o floors w.0) es ((x, d) ∷ [])
    ∙ ap (λ b. live_of o floors es ++ cond b ((x, d) ∷ []) []) live
    ∙ ap (λ ws. ws ++ (x, d) ∷ []) same

module _ (l m : Levels) (is : IsSameBut l m) where
  same_level : (n : ℕ) → level_by m (Plain n) ≡ level_by l (Plain n)
  same_level n = ap level_of (ap (λ xs. kept_in xs m.dropped n) is.plains ∙ ap (λ k. kept_in l.plains.items k n) is.dropped)

  pub live_same : (floors : List ℕ) (es : List (Element × Named)) → live_of m floors es ≡ live_of l floors es
  live_same floors es = live_agree l m floors is.ended es (λ n c. same_level n)

  -- a plain write is staged
  pub live_plain : (o : Levels) (floors : List ℕ) (es : List (Element × Named)) (n level key : ℕ) (before : Option Element) (d : Named) → m.ended ≤ level → ((i : ℕ) → m.ended + i ≡ level → IsPlainPushed m o n i before key) → ((w : ℕ) → IsListed es (Plain w) → w ≤ n) → live_of o floors (es ++ (Plain (n + 1), d) ∷ []) ≡ live_of l floors es ++ (Plain (n + 1), d) ∷ []
  live_plain o floors es n level key before d low pushes numbered =
      live_push o l floors es (Plain (n + 1)) d (lt-ltb o.ended (level_by o (Plain (n + 1))) (omega (arith, new.ended, ap level_of new.itself)))
      (live_agree l o floors (new.ended ∙ is.ended) es (λ w c. old w (numbered w c) ∙ same_level w))
    where
      new : IsPlainPushed m o n (level - m.ended) before key
      new = pushes (level - m.ended) (omega (arith, low))

      old : (w : ℕ) → w ≤ n → level_by o (Plain w) ≡ level_by m (Plain w)
      old w le = ap level_of (new.others (Plain w) (λ e. let s : w ≡ n + 1 = cc e in absurd (omega (arith, s, le)))) ∙ relinked_level (row_at m.rows.items (level - m.ended)).last (n + 1) (kept_by m) (Plain w)

  -- a version is staged
  pub live_version : (o : Levels) (floors : List ℕ) (es : List (Element × Named)) (f v i : ℕ) (k : Kept) (d : Named) → IsVersionPushed m o f v i k → get_or floors f 0 ≤ v → live_of o floors (es ++ (Version f (v + 1), d) ∷ []) ≡ live_of l floors es ++ (Version f (v + 1), d) ∷ []
  live_version o floors es f v i k d new low =
      live_push o l floors es (Version f (v + 1)) d (lt-ltb (get_or floors f 0) (v + 1) (omega (arith, low)))
      (live_agree l o floors (new.ended ∙ is.ended) es (λ w c. ap level_of (new.others (Plain w) (λ e. absurd (cc e))) ∙ same_level w))

-- a round is taken
pub live_taken : (l m : Levels) → (length l.rows.items ≡ 0 → m ≡ l) → (0 < length l.rows.items → m ≡ record { ended = l.ended; base = l.ended + 1; plains = l.plains; dropped = l.dropped; versions = l.versions; starts = l.starts; rows = l.rows }) → (floors : List ℕ) (es : List (Element × Named)) → live_of m floors es ≡ live_of l floors es
live_taken l m empty one floors es = ⊎_elim
    (λ (some : 0 < length l.rows.items). let e = one some in live_agree l m floors (ap (λ (u : Levels). u.ended) e) es (λ n c. ap (λ (u : Levels). level_by u (Plain n)) e))
    (λ (le : length l.rows.items ≤ 0). ap (λ (u : Levels). live_of u floors es) (empty (omega (arith, le))))
    (cases_lt 0 (length l.rows.items))

-- NUMBERS
pub plains_push : (es : List (Element × Named)) (n : ℕ) (d : Named) → ((w : ℕ) → IsListed es (Plain w) → w ≤ n) → (w : ℕ) → IsListed (es ++ (Plain (n + 1), d) ∷ []) (Plain w) → w ≤ n + 1
plains_push es n d all w c = ⊎_elim
    (λ (o : slice_get es c.0 ≡ Some (Plain w, c.1)). omega (arith, all w (c.0, c.1, o)))
    (λ (o : (c.0 ≡ length es) × ((Plain (n + 1), d) ≡ (Plain w, c.1))). let p : Plain (n + 1) ≡ Plain w = ap (λ (u : Element × Named). u.0) o.1 in let s : n + 1 ≡ w = cc p in omega (arith, s))
    (at_push es (Plain (n + 1), d) (Plain w, c.1) c.0 c.2)

pub plains_kept : (es : List (Element × Named)) (f v n : ℕ) (d : Named) → ((w : ℕ) → IsListed es (Plain w) → w ≤ n) → (w : ℕ) → IsListed (es ++ (Version f v, d) ∷ []) (Plain w) → w ≤ n
plains_kept es f v n d all w c = ⊎_elim
    (λ (o : slice_get es c.0 ≡ Some (Plain w, c.1)). all w (c.0, c.1, o))
    (λ (o : (c.0 ≡ length es) × ((Version f v, d) ≡ (Plain w, c.1))). let p : Version f v ≡ Plain w = ap (λ (u : Element × Named). u.0) o.1 in absurd (cc p))
    (at_push es (Version f v, d) (Plain w, c.1) c.0 c.2)

pub floors_kept : (floors latest : List ℕ) (f v : ℕ) → f < length latest → v ≡ get_or latest f 0 → ((g : ℕ) → get_or floors g 0 ≤ get_or latest g 0) → (g : ℕ) → get_or floors g 0 ≤ get_or (set latest f (v + 1)) g 0
floors_kept floors latest f v inside last low g = ⊎_elim
    (λ (e : g ≡ f). omega (arith, low g, ap (λ i. get_or latest i 0) e, last, ap (λ i. get_or (set latest f (v + 1)) i 0) e, get_or-set_same latest f (v + 1) 0 inside))
    (λ (ne : g ≢ f). omega (arith, low g, get_or-set_other latest f g (v + 1) 0 ne))
    (same_family f g)
