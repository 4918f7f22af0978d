-- What a target needs is found from the last entry to the first.
use Rattle.std.proofs.Common.{◌≡◌, ◌∙◌, ℕ, zero, suc, ◌+◌, ◌<◌, ◌≤◌, ◌⊎◌, Bool, true, false, List, [], ◌∷◌, ◌++◌, length, get_or, take, take_all, Some, slice_get, refl, sym, ap, subst, inl, inr, ⊎_elim, arith}
use Rattle.std.specs.Prelude.{◌↔◌, ◌==◌, ◌&&◌, cond, filter, option_map, nat_le, slice_index_or, if◌then◌else◌}
use Rattle.std.proofs.lemmas.Bool.{cases_lt, lt-ltb}
use Rattle.std.proofs.lemmas.Bool.Decides.{nat_tests}
use Rattle.std.proofs.lemmas.List.{append-nil, length-append}
use Rattle.std.proofs.lemmas.Option.{some_pair_parts, same_Some, slice_get-map, slice_get_within}
use Rattle.cs_deps.specs.declared.elements.Element.{Element}
use Rattle.cs_deps.specs.declared.elements.Element.TheVariants.{Plain, Version}
use Rattle.cs_deps.specs.declared.spans.Span.{Span}
use Rattle.cs_deps.specs.Named.{Named, Names, IsInSpan, IsInSpans}
use Rattle.cs_deps.specs.Pending.{Pending, Waits, WaitsAt, Needs, IsPersistent, IsStaged}
use Rattle.cs_deps.specs.Chain.{IsChain, LastIs}
use Rattle.cs_deps.specs.Staging.{Staging, IsKept, stands_for}
use Rattle.cs_deps.specs.declared.levels.Levels.{Levels}
use Rattle.cs_deps.specs.Levels.{entry_live, live_of}
use Rattle.cs_deps.specs.Entries.{nothing, union, joined_with, full_needs, entry_waits, waiting_of}
use Rattle.cs_deps.specs.Wanted.{AreMarked, AreWanted, taken_at, IsWantedFrom}
use Rattle.cs_deps.proofs.Chains.{need_is_needed}
use Rattle.cs_deps.proofs.Entries.{names_of_union, names_nothing, listed_now, listed_was, filtered_more}
use Rattle.cs_deps.proofs.Filtered.{filter_keeps}
use Rattle.cs_deps.proofs.Live.{filter_place}
use Rattle.cs_deps.proofs.LowerBound.{waiting_not_persistent}
use Rattle.cs_deps.proofs.InSpans.{no_span, in_left, in_right, in_either, added_none, added_more, added_all}

-- MARKS
-- places up to one are those up to another
pub places_marked : (old new : Type 0) (from end place i : ℕ) → (from ≤ i → i < place → i < end) → (i < end → i < place) → new ↔ (old ⊎ ((from ≤ i) × (i < place))) → new ↔ (old ⊎ ((from ≤ i) × (i < end)))
places_marked old new from end place i less more was = (
  (λ m. ⊎_elim (λ (o : old). inl o) (λ (p : (from ≤ i) × (i < place)). inr (p.0, less p.0 p.1)) (was.0 m)),
  (λ h. was.1 (⊎_elim (λ (o : old). inl o) (λ (p : (from ≤ i) × (i < end)). inr (p.0, more p.1)) h)),
)

abbrev pub AreMarkedSo : ℕ → List Bool → List Span → ℕ → List Bool → Type 0
AreMarkedSo start old spans k new = (i : ℕ) → i < length old → (slice_index_or new i false ≡ true) ↔ ((slice_index_or old i false ≡ true) ⊎ IsInSpans (take k spans) (start + i + 1))

pub marked_none : (start : ℕ) (old : List Bool) (spans : List Span) → AreMarkedSo start old spans 0 old
marked_none start old spans i lt = added_none spans (slice_index_or old i false ≡ true) (start + i + 1)

pub marked_more : (start : ℕ) (old mid new : List Bool) (spans : List Span) (k : ℕ) → k < length spans → length mid ≡ length old → AreMarkedSo start old spans k mid → ((i : ℕ) → i < length mid → (slice_index_or new i false ≡ true) ↔ ((slice_index_or mid i false ≡ true) ⊎ IsInSpan (start + i + 1) (get_or spans k no_span))) → AreMarkedSo start old spans (k + 1) new
marked_more start old mid new spans k lt count was step i inside =
    added_more spans k (start + i + 1) lt (slice_index_or old i false ≡ true) (slice_index_or mid i false ≡ true) (slice_index_or new i false ≡ true) (was i inside) (step i (omega (arith, inside, count)))

pub marked_all : (start : ℕ) (old new : List Bool) (spans : List Span) (k : ℕ) → length spans ≤ k → AreMarkedSo start old spans k new → (i : ℕ) → i < length old → (slice_index_or new i false ≡ true) ↔ ((slice_index_or old i false ≡ true) ⊎ IsInSpans spans (start + i + 1))
marked_all start old new spans k le was i lt = added_all spans k (start + i + 1) le (slice_index_or old i false ≡ true) (slice_index_or new i false ≡ true) (was i lt)

-- the marks of two lists
pub marked_both : (start : ℕ) (old new : List Bool) (a b : List Span) → AreMarked start old a → length new ≡ length old → ((i : ℕ) → i < length old → (slice_index_or new i false ≡ true) ↔ ((slice_index_or old i false ≡ true) ⊎ IsInSpans b (start + i + 1))) → AreMarked start new (a ++ b)
marked_both start old new a b was count is i lt =
    let inside : i < length old = omega (arith, lt, count) in (
      (λ m. ⊎_elim
          (λ (o : slice_index_or old i false ≡ true). in_left a b (start + i + 1) ((was i inside).0 o))
          (λ (c : IsInSpans b (start + i + 1)). in_right a b (start + i + 1) c)
          ((is i inside).0 m)),
      (λ c. ⊎_elim
          (λ (l : IsInSpans a (start + i + 1)). (is i inside).1 (inl ((was i inside).1 l)))
          (λ (r : IsInSpans b (start + i + 1)). (is i inside).1 (inr r))
          (in_either a b (start + i + 1) c)),
    )

-- JOINED NEEDS
-- what was named stays named
joined_keeps : (y : Element) (d : Named) (ws : List (Element × Named)) (z : Element) → Names d z → Names (joined_with y d ws) z
joined_keeps y d [] z n = n
joined_keeps y d (w ∷ ws) z n = go (stands_for y w.0) (λ e m. joined_keeps y e ws z m)
  where
    go : (b : Bool) → ((e : Named) → Names e z → Names (joined_with y e ws) z) → Names (joined_with y (if b then union d w.1 else d) ws) z
    go true rest = rest (union d w.1) ((names_of_union d w.1 z).1 (inl n))
    go false rest = rest d n

-- what an entry that is stood for names is named by what is joined
joined_has : (y x : Element) (d own : Named) (ws : List (Element × Named)) (k : ℕ) (z : Element) → slice_get ws k ≡ Some (x, own) → stands_for y x ≡ true → Names own z → Names (joined_with y d ws) z
joined_has y x d own [] k z at stands n = absurd (cc at)
joined_has y x d own (w ∷ ws) zero z at stands n =
    let p = some_pair_parts w.0 x w.1 own at in
    let b : stands_for y w.0 ≡ true = subst (λ u. stands_for y u ≡ true) (sym p.0) stands in
    subst (λ (c : Bool). Names (joined_with y (if c then union d w.1 else d) ws) z) (sym b) (joined_keeps y (union d w.1) ws z ((names_of_union d w.1 z).1 (inr (subst (λ u. Names u z) (sym p.1) n))))
joined_has y x d own (w ∷ ws) (suc k) z at stands n = joined_has y x (if stands_for y w.0 then union d w.1 else d) own ws k z at stands n

-- an entry of those that y stands for names z
abbrev IsNamedIn : Element → List (Element × Named) → Element → Type 0
IsNamedIn y ws z = (k : ℕ) × (w : Element × Named) × (slice_get ws k ≡ Some w) × (stands_for y w.0 ≡ true) × Names w.1 z

-- nothing else is named
joined_from : (y : Element) (d : Named) (ws : List (Element × Named)) (z : Element) → Names (joined_with y d ws) z → Names d z ⊎ IsNamedIn y ws z
joined_from y d [] z n = inl n
joined_from y d (w ∷ ws) z n = go (stands_for y w.0) refl (λ e m. joined_from y e ws z m) n
  where
    later : IsNamedIn y ws z → Names d z ⊎ IsNamedIn y (w ∷ ws) z
    later r = inr (suc r.0, r.1, r.2, r.3, r.4)

    go : (b : Bool) → stands_for y w.0 ≡ b → ((e : Named) → Names (joined_with y e ws) z → Names e z ⊎ IsNamedIn y ws z) → Names (joined_with y (if b then union d w.1 else d) ws) z → Names d z ⊎ IsNamedIn y (w ∷ ws) z
    go true is rest m = ⊎_elim
        (λ (u : Names (union d w.1) z). ⊎_elim (λ (o : Names d z). inl o) (λ (o : Names w.1 z). inr (0, w, refl, is, o)) ((names_of_union d w.1 z).0 u))
        (λ (r : IsNamedIn y ws z). later r)
        (rest (union d w.1) m)
    go false is rest m = ⊎_elim (λ (o : Names d z). inl o) (λ (r : IsNamedIn y ws z). later r) (rest d m)

-- two that pass a filter stand behind it in their order
both_kept : {X : Type 0} (p : X → Bool) (xs : List X) (k j : ℕ) (e f : X) → k < j → slice_get xs k ≡ Some e → slice_get xs j ≡ Some f → p e ≡ true → p f ≡ true → (m : ℕ) × (n : ℕ) × (m < n) × (slice_get (filter p xs) m ≡ Some e) × (slice_get (filter p xs) n ≡ Some f)
both_kept p [] k j e f lt a b pe pf = absurd (cc a)
both_kept p (x ∷ xs) k zero e f lt a b pe pf = absurd (omega (arith, lt))
both_kept p (x ∷ xs) zero (suc j) e f lt a b pe pf =
    let r = filter_keeps p xs j f b pf in
    let is : p x ≡ true = subst (λ u. p u ≡ true) (sym (same_Some x e a)) pe in
    subst (λ (c : Bool). (m : ℕ) × (n : ℕ) × (m < n) × (slice_get (cond c (x ∷ filter p xs) (filter p xs)) m ≡ Some e) × (slice_get (cond c (x ∷ filter p xs) (filter p xs)) n ≡ Some f)) (sym is) (0, suc r.0, omega arith, a, r.1)
both_kept p (x ∷ xs) (suc k) (suc j) e f lt a b pe pf = go (p x) (both_kept p xs k j e f (omega (arith, lt)) a b pe pf)
  where
    go : (c : Bool) → (m : ℕ) × (n : ℕ) × (m < n) × (slice_get (filter p xs) m ≡ Some e) × (slice_get (filter p xs) n ≡ Some f) → (m : ℕ) × (n : ℕ) × (m < n) × (slice_get (cond c (x ∷ filter p xs) (filter p xs)) m ≡ Some e) × (slice_get (cond c (x ∷ filter p xs) (filter p xs)) n ≡ Some f)
    go true r = (suc r.0, suc r.1, omega (arith, r.2), r.3, r.4)
    go false r = r

both : (a b : Bool) → (a && b) ≡ true → (a ≡ true) × (b ≡ true)
both true true is = (refl, refl)
both true false is = absurd (cc is)
both false b is = absurd (cc is)

stands_below : (f u v : ℕ) → u ≤ v → stands_for (Version f v) (Version f u) ≡ true
stands_below f u v le = let s : (f == f) ≡ true = grind (arith, nat_tests) in let t : nat_le u v ≡ true = grind (arith, nat_tests) in ap (λ c. c && nat_le u v) s ∙ t

-- THE PASS
module _ (ps : List ℕ) (entries : List (Element × Named)) (staged : IsStaged (record { persistent = ps; waiting = waiting_of ps entries })) (target : Named) where
  abbrev g : Pending
  g = record { persistent = ps; waiting = waiting_of ps entries }

  -- at the start
  pub wanted_none : (k : ℕ) → length entries ≤ k → IsWantedFrom g ps entries target k target
  wanted_none k le = record {
    asked = λ x n. n;
    sound = λ x w n. ([], (w, n));
    done = λ j x y own kj at waits named taken. absurd (omega (arith, le, kj, slice_get_within entries j (x, own) at));
  }

  -- what is taken in at an entry is needed there
  taken_full : (k : ℕ) (x : Element) (own : Named) → slice_get entries k ≡ Some (x, own) → (y : Element) → Names (taken_at ps entries x own) y → Names (full_needs entries x own) y
  taken_full k (Plain n) own at y named = named
  taken_full k (Version f v) own at y named = go (v == get_or ps f 0 + 1) named
    where
      go : (b : Bool) → Names (if b then joined_with (Version f v) nothing entries else own) y → Names (joined_with (Version f v) nothing entries) y
      go true n = n
      go false n = (let le : v ≤ v = omega arith in joined_has (Version f v) (Version f v) nothing own entries k y at (stands_below f v v le) n)

  taken_needs : (k : ℕ) (x : Element) (own : Named) → slice_get entries k ≡ Some (x, own) → entry_waits ps x ≡ true → (y : Element) → Names (taken_at ps entries x own) y → Needs g x y
  taken_needs k x own at waits y named = (let r = listed_now ps entries k x own at waits in (r.0, full_needs entries x own, r.1, taken_full k x own at y named))

  -- no element needs one that was staged after it
  not_after : (k j : ℕ) (x z : Element) (own late : Named) → k < j → slice_get entries k ≡ Some (x, own) → entry_waits ps x ≡ true → slice_get entries j ≡ Some (z, late) → entry_waits ps z ≡ true → Needs g x z → ⊥
  not_after k j x z own late lt at waits there waits_there n =
      let r = both_kept (λ (w : Element × Named). entry_waits ps w.0) entries k j (x, own) (z, late) lt at there waits waits_there in
      let f : Element × Named → Element × Named = λ w. (w.0, full_needs entries w.0 w.1) in
      let fs = filter (λ (w : Element × Named). entry_waits ps w.0) entries in
      let first : WaitsAt g r.0 x (full_needs entries x own) = slice_get-map f fs r.0 ∙ ap (option_map f) r.3 in
      let second : WaitsAt g r.1 z (full_needs entries z late) = slice_get-map f fs r.1 ∙ ap (option_map f) r.4 in
      ⊎_elim
      (λ (p : IsPersistent g z). waiting_not_persistent g staged z (r.1, full_needs entries z late, second) p)
      (λ (b : (i : ℕ) × (e : Named) × (i < n.0) × WaitsAt g i z e).
      let one : n.0 ≡ r.0 = staged.once n.0 r.0 x n.1 (full_needs entries x own) n.2 first in
      let two : b.0 ≡ r.1 = staged.once b.0 r.1 z b.1 (full_needs entries z late) b.3 second in
      absurd (omega (arith, b.2, one, two, r.2)))
      (staged.earlier n.0 x z n.1 n.2 n.3)

  -- an entry that is wanted
  pub wanted_more : (k : ℕ) (x : Element) (own d : Named) → slice_get entries k ≡ Some (x, own) → entry_waits ps x ≡ true → Names d x → IsWantedFrom g ps entries target (k + 1) d → IsWantedFrom g ps entries target k (union d (taken_at ps entries x own))
  wanted_more k x own d at waits named was = record {
    asked = λ y n. more y (was.asked y n);
    sound = λ y w n. ⊎_elim
        (λ (o : Names d y). was.sound y w o)
        (λ (o : Names taken y). let r = listed_now ps entries k x own at waits in need_is_needed g target x y (was.sound x (r.0, full_needs entries x own, r.1) named) (taken_needs k x own at waits y o) w)
        ((names_of_union d taken y).0 n);
    done = λ j z y late kj there waits_there n t. ⊎_elim
        (λ (l : k < j). ⊎_elim
        (λ (o : Names d z). more y (was.done j z y late (omega (arith, l)) there waits_there o t))
        (λ (o : Names taken z). absurd (not_after k j x z own late l at waits there waits_there (taken_needs k x own at waits z o)))
        ((names_of_union d taken z).0 n))
        (λ (l : j ≤ k).
        let same : j ≡ k = omega (arith, l, kj) in
        let p = some_pair_parts z x late own (sym (subst (λ i. slice_get entries i ≡ Some (z, late)) same there) ∙ at) in
        less y (subst (λ (u : Named). Names (taken_at ps entries x u) y) p.1 (subst (λ (u : Element). Names (taken_at ps entries u late) y) p.0 t)))
        (cases_lt k j);
  }
    where
      taken : Named
      taken = taken_at ps entries x own

      more : (y : Element) → Names d y → Names (union d taken) y
      more y n = (names_of_union d taken y).1 (inl n)

      less : (y : Element) → Names taken y → Names (union d taken) y
      less y n = (names_of_union d taken y).1 (inr n)

  -- an entry that isn't
  pub wanted_same : (k : ℕ) (x : Element) (own d : Named) → slice_get entries k ≡ Some (x, own) → ((entry_waits ps x ≡ true) × Names d x → ⊥) → IsWantedFrom g ps entries target (k + 1) d → IsWantedFrom g ps entries target k d
  wanted_same k x own d at not was = record {
    asked = was.asked;
    sound = was.sound;
    done = λ j z y late kj there waits_there n t. ⊎_elim
        (λ (l : k < j). was.done j z y late (omega (arith, l)) there waits_there n t)
        (λ (l : j ≤ k).
        let same : j ≡ k = omega (arith, l, kj) in
        let p = some_pair_parts z x late own (sym (subst (λ i. slice_get entries i ≡ Some (z, late)) same there) ∙ at) in
        absurd (not (subst (λ (u : Element). (entry_waits ps u ≡ true) × Names d u) p.0 (waits_there, n))))
        (cases_lt k j);
  }

  pub wanted_step : (k : ℕ) (x : Element) (own d e : Named) → slice_get entries k ≡ Some (x, own) → ((((entry_waits ps x ≡ true) × Names d x → ⊥) × (e ≡ d)) ⊎ ((entry_waits ps x ≡ true) × Names d x × (e ≡ union d (taken_at ps entries x own)))) → IsWantedFrom g ps entries target (k + 1) d → IsWantedFrom g ps entries target k e
  wanted_step k x own d e at found was = ⊎_elim
      (λ (no : ((entry_waits ps x ≡ true) × Names d x → ⊥) × (e ≡ d)). subst (IsWantedFrom g ps entries target k) (sym no.1) (wanted_same k x own d at no.0 was))
      (λ (yes : (entry_waits ps x ≡ true) × Names d x × (e ≡ union d (taken_at ps entries x own))). subst (IsWantedFrom g ps entries target k) (sym yes.2) (wanted_more k x own d at yes.0 yes.1 was))
      found

  -- AT THE END
  module _ (first : (f v : ℕ) → Waits g (Version f v) → Waits g (Version f (get_or ps f 0 + 1))) (d : Named) (was : IsWantedFrom g ps entries target 0 d) where
    taken_own : (f u : ℕ) (own : Named) (i : ℕ) (y : Element) → slice_get entries i ≡ Some (Version f u, own) → Names own y → Names (taken_at ps entries (Version f u) own) y
    taken_own f u own i y at named = go (u == get_or ps f 0 + 1)
      where
        go : (b : Bool) → Names (if b then joined_with (Version f u) nothing entries else own) y
        go true = (let le : u ≤ u = omega arith in joined_has (Version f u) (Version f u) nothing own entries i y at (stands_below f u u le) named)
        go false = named

    -- an entry of a version that a named one stands for
    version_entry : (f v u : ℕ) (own : Named) (i : ℕ) (y : Element) → Names d (Version f v) → Waits g (Version f v) → u ≤ v → slice_get entries i ≡ Some (Version f u, own) → Names own y → Names d y
    version_entry f v u own i y named waits le at n = ⊎_elim
        (λ (l : get_or ps f 0 < u).
        let w : entry_waits ps (Version f u) ≡ true = lt-ltb (get_or ps f 0) u l in
        was.done i (Version f u) y own (omega arith) at w (omega (arith, l), omega (arith, le, named.1)) (taken_own f u own i y at n))
        (λ (l : u ≤ get_or ps f 0).
        let above : get_or ps f 0 < v = staged.not_yet f v waits in
        let w = first f v waits in
        let r = listed_was ps entries w.0 (Version f (get_or ps f 0 + 1)) w.1 w.2 in
        let e : ((get_or ps f 0 + 1) == (get_or ps f 0 + 1)) ≡ true = grind (arith, nat_tests) in
        let all : Names (joined_with (Version f (get_or ps f 0 + 1)) nothing entries) y = joined_has (Version f (get_or ps f 0 + 1)) (Version f u) nothing own entries i y at (stands_below f u (get_or ps f 0 + 1) (omega (arith, l))) n in
        was.done r.0 (Version f (get_or ps f 0 + 1)) y r.1 (omega arith) r.2 r.3 (omega arith, omega (arith, above, named.1)) (subst (λ (b : Bool). Names (if b then joined_with (Version f (get_or ps f 0 + 1)) nothing entries else r.1) y) (sym e) all))
        (cases_lt (get_or ps f 0) u)

    any_entry : (f v : ℕ) (x : Element) (own : Named) (i : ℕ) (y : Element) → Names d (Version f v) → Waits g (Version f v) → slice_get entries i ≡ Some (x, own) → stands_for (Version f v) x ≡ true → Names own y → Names d y
    any_entry f v (Plain n) own i y named waits at stands m = absurd (cc stands)
    any_entry f v (Version h u) own i y named waits at stands m =
        let b = both (f == h) (nat_le u v) stands in
        let e : h ≡ f = grind (arith, nat_tests) in
        let le : u ≤ v = grind (arith, nat_tests) in
        version_entry f v u own i y named waits le (subst (λ j. slice_get entries i ≡ Some (Version j u, own)) e at) m

    -- what a named element needs is named
    needs_named : (x y : Element) → Names d x → Needs g x y → Names d y
    needs_named x y named n = (let r = listed_was ps entries n.0 x n.1 n.2 in from x r.0 r.1 r.2 r.3 named (n.0, n.1, n.2) (subst (λ (u : Named). Names u y) (sym r.4) n.3))
      where
        from : (x : Element) (j : ℕ) (own : Named) → slice_get entries j ≡ Some (x, own) → entry_waits ps x ≡ true → Names d x → Waits g x → Names (full_needs entries x own) y → Names d y
        from (Plain m) j own at waits named w full = was.done j (Plain m) y own (omega arith) at waits named full
        from (Version f v) j own at waits named w full = ⊎_elim
            (λ (z : Names nothing y). absurd (names_nothing y z))
            (λ (r : IsNamedIn (Version f v) entries y). any_entry f v r.1.0 r.1.1 r.0 y named w r.2 r.3 r.4)
            (joined_from (Version f v) nothing entries y full)

    chain_named : (x : Element) (xs : List Element) → IsChain g (x ∷ xs) → LastIs (Names target) (x ∷ xs) → Names d x
    chain_named x [] c last = was.asked x last
    chain_named x (y ∷ ys) c last = needs_named y x (chain_named y ys c.2 last) c.1

    pub all_wanted : AreWanted g target d
    all_wanted x w = ((λ n. was.sound x w n), (λ n. chain_named x n.0 n.1.0 n.1.1))

-- Places among the entries of use, by places among all entries.
module _ (l : Levels) (floors ps : List ℕ) (es : List (Element × Named)) (staged : IsStaged (record { persistent = ps; waiting = waiting_of ps (live_of l floors es) })) (target : Named) where
  abbrev live : List (Element × Named)
  live = live_of l floors es

  abbrev waiting : Pending
  waiting = record { persistent = ps; waiting = waiting_of ps live }

  -- the entries of use before place k were not gone through yet
  abbrev pub IsWantedBack : ℕ → Named → Type 0
  IsWantedBack k d = IsWantedFrom waiting ps live target (length (live_of l floors (take k es))) d

  pub wanted_start : (k : ℕ) → length es ≤ k → IsWantedBack k target
  wanted_start k le = wanted_none ps live staged target (length (live_of l floors (take k es))) (omega (arith, ap (λ us. length (live_of l floors us)) (take_all k es le)))

  pub wanted_end : (d : Named) → IsWantedBack 0 d → IsWantedFrom waiting ps live target 0 d
  wanted_end d was = subst (λ k. IsWantedFrom waiting ps live target k d) (none es) was
    where
      none : (us : List (Element × Named)) → length (live_of l floors (take 0 us)) ≡ 0
      none [] = refl
      none (u ∷ us) = refl

  pub wanted_back : (k : ℕ) (x : Element) (own d e : Named) → slice_get es k ≡ Some (x, own) → (((((entry_live l floors x && entry_waits ps x) ≡ true) × Names d x → ⊥) × (e ≡ d)) ⊎ (((entry_live l floors x && entry_waits ps x) ≡ true) × Names d x × (e ≡ union d (taken_at ps live x own)))) → IsWantedBack (k + 1) d → IsWantedBack k e
  wanted_back k x own d e at found was = go (entry_live l floors x) refl
    where
      go : (b : Bool) → entry_live l floors x ≡ b → IsWantedBack k e
      go true q =
          let next : length (live_of l floors (take (k + 1) es)) ≡ length (live_of l floors (take k es)) + 1 = ap length (filtered_more (λ (w : Element × Named). entry_live l floors w.0) es k (x, own) true at q) ∙ length-append (live_of l floors (take k es)) ((x, own) ∷ []) in
          let same : (entry_live l floors x && entry_waits ps x) ≡ entry_waits ps x = ap (λ b. b && entry_waits ps x) q in
          wanted_step ps live staged target (length (live_of l floors (take k es))) x own d e (filter_place (λ (w : Element × Named). entry_live l floors w.0) es k (x, own) at q)
          (⊎_elim
          (λ (no : (((entry_live l floors x && entry_waits ps x) ≡ true) × Names d x → ⊥) × (e ≡ d)). inl ((λ n. no.0 (same ∙ n.0, n.1)), no.1))
          (λ (yes : ((entry_live l floors x && entry_waits ps x) ≡ true) × Names d x × (e ≡ union d (taken_at ps live x own))). inr (sym same ∙ yes.0, yes.1, yes.2))
          found)
          (subst (λ i. IsWantedFrom waiting ps live target i d) next was)
      go false q =
          let next : length (live_of l floors (take (k + 1) es)) ≡ length (live_of l floors (take k es)) = ap length (filtered_more (λ (w : Element × Named). entry_live l floors w.0) es k (x, own) false at q ∙ append-nil (live_of l floors (take k es))) in
          let out : (entry_live l floors x && entry_waits ps x) ≡ false = ap (λ b. b && entry_waits ps x) q in
          let same : e ≡ d = ⊎_elim
          (λ (no : (((entry_live l floors x && entry_waits ps x) ≡ true) × Names d x → ⊥) × (e ≡ d)). no.1)
          (λ (yes : ((entry_live l floors x && entry_waits ps x) ≡ true) × Names d x × (e ≡ union d (taken_at ps live x own))). absurd (cc (sym out ∙ yes.0)))
          found in
          subst (λ (u : Named). IsWantedBack k u) (sym same) (subst (λ i. IsWantedFrom waiting ps live target i d) next was)

-- the first version of a family waits where one does
pub first_waits_too : (s : Staging) → IsKept s → (f v : ℕ) → Waits s.pending (Version f v) → Waits s.pending (Version f (get_or s.pending.persistent f 0 + 1))
first_waits_too s kept f v waits =
    let above : get_or s.pending.persistent f 0 < v = kept.staged.not_yet f v waits in
    let top : v ≤ get_or s.latest f 0 = kept.numbered (Version f v) waits in
    kept.versions_wait f (get_or s.pending.persistent f 0 + 1) (omega arith) (omega (arith, above, top))
