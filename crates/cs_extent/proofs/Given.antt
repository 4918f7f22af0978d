-- No page is given twice in one generation of its extent.
use Rattle.std.proofs.Common.{◌≡◌, ◌∙◌, ℕ, zero, suc, ◌+◌, ◌<◌, ◌≤◌, ◌⊎◌, Bool, true, false, List, [], ◌∷◌, ◌++◌, length, Some, slice_get, refl, sym, ap, subst, inl, inr, ⊎_elim, arith}
use Rattle.std.specs.Prelude.{◌==◌, if◌then◌else◌}
use Rattle.std.proofs.lemmas.Bool.Decides.{nat_tests}
use Rattle.std.proofs.lemmas.Option.{same_Some}
use Rattle.law_machine.specs.Device.{Shape}
use Rattle.law_machine.specs.Extents.{Extents, emptied, forgotten, marked, taken, taken_by}
use Rattle.law_machine.specs.Lists.{with}
use Rattle.cs_extent.specs.Changes.{Append, Change, Given, LeadsTo, Mark, Note, Reset, given_from}
use Rattle.cs_extent.specs.Frames.{greatest}
use Rattle.cs_extent.proofs.Changes.{greatest_is}
use Rattle.cs_extent.proofs.Fitting.{with_same}

-- a member of two lists, one behind the other
pub in_either : {X : Type 0} (xs ys : List X) (i : ℕ) (x : X) → slice_get (xs ++ ys) i ≡ Some x
    → ((i < length xs) × (slice_get xs i ≡ Some x)) ⊎ ((j : ℕ) × (i ≡ length xs + j) × (slice_get ys j ≡ Some x))
in_either [] ys i x h = inr (i, omega arith, h)
in_either (y ∷ xs) ys zero x h = inl (omega arith, h)
in_either (y ∷ xs) ys (suc i) x h = ⊎_elim
    (λ (l : (i < length xs) × (slice_get xs i ≡ Some x)). inl (omega (arith, l.0), l.1))
    (λ (r : (j : ℕ) × (i ≡ length xs + j) × (slice_get ys j ≡ Some x)). inr (r.0, omega (arith, r.1), r.2))
    (in_either xs ys i x h)

given_length : (e p g n : ℕ) → length (given_from e p g n) ≡ n
given_length e p g zero = refl
given_length e p g (suc n) = ap suc (given_length e (suc p) g n)

-- the page at a place of a frame
given_at : (e p g n i : ℕ) (page : Given) → slice_get (given_from e p g n) i ≡ Some page → page ≡ record { extent = e; page = p + i; generation = g }
given_at e p g zero i page h = absurd (cc h)
given_at e p g (suc n) zero page h =
    let here : p ≡ p + 0 = omega arith in
    sym (same_Some (record { extent = e; page = p; generation = g }) page h) ∙ ap (λ (q : ℕ). record { extent = e; page = q; generation = g }) here
given_at e p g (suc n) (suc i) page h =
    let next : suc p + i ≡ p + suc i = omega arith in
    given_at e (suc p) g n i page h ∙ ap (λ (q : ℕ). record { extent = e; page = q; generation = g }) next

-- not given yet
abbrev IsLater : Extents → Given → Type 0
IsLater x page = (x.generation page.extent < page.generation) ⊎ ((page.generation ≡ x.generation page.extent) × (x.pointer page.extent ≤ page.page))

grows : (f : ℕ → ℕ) (e k d : ℕ) → f d ≤ with f e (f e + k) d
grows f e k d = split (d == e) refl
  where
    split : (b : Bool) → (d == e) ≡ b → f d ≤ (if b then f e + k else f d)
    split true is = let same : d ≡ e = grind (arith, nat_tests) in let here : f d ≡ f e = ap f same in omega (arith, here)
    split false is = omega arith

later_taken : (S : Shape) (x : Extents) (e k : ℕ) (page : Given) → IsLater (taken S x e k) page → IsLater x page
later_taken S x e k page h = ⊎_elim
    (λ (l : x.generation page.extent < page.generation). inl l)
    (λ (r : (page.generation ≡ x.generation page.extent) × (with x.pointer e (x.pointer e + k) page.extent ≤ page.page)). inr (r.0, omega (arith, r.1, grows x.pointer e k page.extent)))
    h

later_emptied : (x : Extents) (e root : ℕ) (page : Given) → IsLater (emptied x e root) page → IsLater x page
later_emptied x e root page h = split (page.extent == e) refl h
  where
    split : (b : Bool) → (page.extent == e) ≡ b
        → ((if b then suc (x.generation e) else x.generation page.extent) < page.generation) ⊎ ((page.generation ≡ (if b then suc (x.generation e) else x.generation page.extent)) × ((if b then 0 else x.pointer page.extent) ≤ page.page))
        → IsLater x page
    split true is h =
        let same : page.extent ≡ e = grind (arith, nat_tests) in
        let here : x.generation page.extent ≡ x.generation e = ap x.generation same in
        inl (⊎_elim
        (λ (l : suc (x.generation e) < page.generation). let lt : x.generation page.extent < page.generation = omega (arith, l, here) in lt)
        (λ (r : (page.generation ≡ suc (x.generation e)) × (0 ≤ page.page)). let lt : x.generation page.extent < page.generation = omega (arith, r.0, here) in lt)
        h)
    split false is h = h

pub all_later : (S : Shape) (x y : Extents) (changes : List Change) (given : List Given) → LeadsTo S x changes given y → (i : ℕ) (page : Given) → slice_get given i ≡ Some page → IsLater x page
all_later S x y [] given leads i page at = absurd (cc (at, ap (λ (l : List Given). slice_get l i) leads.1))
all_later S x y (Append reason k e ∷ changes) given leads i page at = ⊎_elim
    (λ (l : (i < length (given_from e (x.pointer e) (x.generation e) k)) × (slice_get (given_from e (x.pointer e) (x.generation e) k) i ≡ Some page)).
    let is = given_at e (x.pointer e) (x.generation e) k i page l.1 in
    subst (IsLater x) (sym is) (inr (refl, omega arith)))
    (λ (r : (j : ℕ) × (i ≡ length (given_from e (x.pointer e) (x.generation e) k) + j) × (slice_get leads.0 j ≡ Some page)).
    later_taken S x e k page (all_later S (taken_by S S.apart reason x e k) y changes leads.0 leads.3 r.0 page r.2))
    (in_either (given_from e (x.pointer e) (x.generation e) k) leads.0 i page (subst (λ (l : List Given). slice_get l i ≡ Some page) leads.2 at))
all_later S x y (Reset e root ∷ changes) given leads i page at = later_emptied x e root page (all_later S (forgotten S.apart (emptied x e root) e) y changes given leads i page at)
all_later S x y (Mark e b ∷ changes) given leads i page at = all_later S (marked x e b) y changes given leads i page at
all_later S x y (Note o fresh last of_runs ∷ changes) given leads i page at =
    all_later S (record x { open_extent = o; fresh = fresh; last = last; of_runs = of_runs }) y changes given leads i page at

-- a page of a frame comes before all that is given after it
not_again : (S : Shape) (x : Extents) (e k i : ℕ) (page : Given) → i < k → page ≡ record { extent = e; page = x.pointer e + i; generation = x.generation e } → IsLater (taken S x e k) page → ⊥
not_again S x e k i page lt is later = ⊎_elim
    (λ (l : x.generation e < x.generation e). omega (arith, l))
    (λ (r : (x.generation e ≡ x.generation e) × (with x.pointer e (x.pointer e + k) e ≤ x.pointer e + i)). omega (arith, r.1, with_same x.pointer e (x.pointer e + k), lt))
    (subst (IsLater (taken S x e k)) is later)

abbrev StandsAt : List Given → List Given → Given → ℕ → Type 0
StandsAt front rest page m = ((m < length front) × (slice_get front m ≡ Some page)) ⊎ ((n : ℕ) × (m ≡ length front + n) × (slice_get rest n ≡ Some page))

module _ (S : Shape) (x : Extents) (e k : ℕ) (rest : List Given) (page : Given)
    (later : (n : ℕ) → slice_get rest n ≡ Some page → IsLater (taken S x e k) page)
    (again : (u v : ℕ) → slice_get rest u ≡ Some page → slice_get rest v ≡ Some page → u ≡ v) where
  abbrev front : List Given
  front = given_from e (x.pointer e) (x.generation e) k

  only_front : (i n : ℕ) → i < length front → slice_get front i ≡ Some page → slice_get rest n ≡ Some page → ⊥
  only_front i n lt at behind = not_again S x e k i page (omega (arith, lt, given_length e (x.pointer e) (x.generation e) k)) (given_at e (x.pointer e) (x.generation e) k i page at) (later n behind)

  stands_once : (i j : ℕ) → StandsAt front rest page i → StandsAt front rest page j → i ≡ j
  stands_once i j a b = ⊎_elim
      (λ (p : (i < length front) × (slice_get front i ≡ Some page)). ⊎_elim
      (λ (q : (j < length front) × (slice_get front j ≡ Some page)).
      let same : x.pointer e + i ≡ x.pointer e + j = ap (λ (g : Given). g.page) (sym (given_at e (x.pointer e) (x.generation e) k i page p.1) ∙ given_at e (x.pointer e) (x.generation e) k j page q.1) in
      omega (arith, same))
      (λ (q : (n : ℕ) × (j ≡ length front + n) × (slice_get rest n ≡ Some page)). absurd (only_front i q.0 p.0 p.1 q.2))
      b)
      (λ (p : (n : ℕ) × (i ≡ length front + n) × (slice_get rest n ≡ Some page)). ⊎_elim
      (λ (q : (j < length front) × (slice_get front j ≡ Some page)). absurd (only_front j p.0 q.0 q.1 p.2))
      (λ (q : (n : ℕ) × (j ≡ length front + n) × (slice_get rest n ≡ Some page)). let same : p.0 ≡ q.0 = again p.0 q.0 p.2 q.2 in omega (arith, p.1, q.1, same))
      b)
      a

pub given_once : (S : Shape) (x y : Extents) (changes : List Change) (given : List Given) (i j : ℕ) (page : Given) → LeadsTo S x changes given y → slice_get given i ≡ Some page → slice_get given j ≡ Some page → i ≡ j
given_once S x y [] given i j page leads a b = absurd (cc (a, ap (λ (l : List Given). slice_get l i) leads.1))
given_once S x y (Append reason k e ∷ changes) given i j page leads a b =
    let front : List Given = given_from e (x.pointer e) (x.generation e) k in
    stands_once S x e k leads.0 page
    (λ n at. all_later S (taken_by S S.apart reason x e k) y changes leads.0 leads.3 n page at)
    (λ u v. given_once S (taken_by S S.apart reason x e k) y changes leads.0 u v page leads.3)
    i j
    (in_either front leads.0 i page (subst (λ (l : List Given). slice_get l i ≡ Some page) leads.2 a))
    (in_either front leads.0 j page (subst (λ (l : List Given). slice_get l j ≡ Some page) leads.2 b))
given_once S x y (Reset e root ∷ changes) given i j page leads a b = given_once S (forgotten S.apart (emptied x e root) e) y changes given i j page leads a b
given_once S x y (Mark e m ∷ changes) given i j page leads a b = given_once S (marked x e m) y changes given i j page leads a b
given_once S x y (Note o fresh last of_runs ∷ changes) given i j page leads a b =
    given_once S (record x { open_extent = o; fresh = fresh; last = last; of_runs = of_runs }) y changes given i j page leads a b

-- what is needed rises

pub greatest_emptied : (x : Extents) (start count i root : ℕ) → i < count → greatest (λ k. x.reset (start + k)) count ≤ root
    → greatest (λ k. (emptied x (start + i) root).reset (start + k)) count ≡ root
greatest_emptied x start count i root lt le =
    let low : root ≤ greatest new count = subst (λ v. v ≤ greatest new count) (with_same x.reset (start + i) root) (greatest_is new count i lt) in
    let high : greatest new count ≤ root = below count (λ d h. omega (arith, greatest_is (λ k. x.reset (start + k)) count d h, le)) in
    omega (arith, low, high)
  where
    new : ℕ → ℕ
    new k = with x.reset (start + i) root (start + k)

    each : (d : ℕ) → x.reset d ≤ root → (b : Bool) → (if b then root else x.reset d) ≤ root
    each d h true = omega arith
    each d h false = h

    below : (m : ℕ) → ((d : ℕ) → d < m → x.reset (start + d) ≤ root) → greatest new m ≤ root
    below zero all = omega arith
    below (suc m) all = omega (arith, each (start + m) (all m (omega arith)) ((start + m) == (start + i)), below m (λ d h. all d (omega (arith, h))))
