-- A view that is read element by element.
use Rattle.std.proofs.Common.{take, take_all, get_or-set_same, get_or-set_other, length-set, ◌≡◌, ◌∙◌, ℕ, ◌+◌, ◌-◌, ◌<◌, ◌≤◌, ◌⊎◌, List, length, slice_index, slice_set, cond, Some, slice_get, refl, sym, ap, subst, inl, inr, ⊎_elim, arith, true}
use Rattle.std.proofs.lemmas.Bool.{cases_lt, cases_order, cases_eq, eq-eqb, ne_eqb}
use Rattle.std.specs.Prelude.{count_by}
use Rattle.std.proofs.lemmas.Option.{slice_get_within}
use Rattle.cs_deps.specs.declared.elements.Element.{Element}
use Rattle.cs_deps.specs.declared.elements.Element.TheVariants.{Plain, Version}
use Rattle.cs_deps.specs.Named.{Named, Names}
use Rattle.cs_deps.specs.Pending.{Pending, WaitsAt, IsPersistent}
use Rattle.cs_deps.proofs.Within.{below_next, same_at}
use Rattle.cs_check.specs.Listing.{IsListing, IsListedAt, IsNumberedAt, WaitsBefore, versions_before, is_of}
use Rattle.cs_check.specs.Progress.{NamesFrom, IsKnown, IsNext, MayStand, IsUpTo, IsListedTo, plain_after, latest_after, AreLatest}
use Rattle.cs_check.proofs.Counts.{sought, counted, counted_past, counted_one, one_counted, family_of}

-- no element from place k up to j is named, nor the one at j
pub none_more : (xs : List (Element × Named)) (d : Named) (k j : ℕ) (x : Element) (e : Named) → slice_get xs j ≡ Some (x, e) → (Names d x → ⊥)
    → ((i : ℕ) (y : Element) (h : Named) → k ≤ i → i < j → slice_get xs i ≡ Some (y, h) → Names d y → ⊥)
    → (i : ℕ) (y : Element) (h : Named) → k ≤ i → i < j + 1 → slice_get xs i ≡ Some (y, h) → Names d y → ⊥
none_more xs d k j x e at not none i y h le lt here named =
    ⊎_elim
    (λ (l : i < j). none i y h le l here named)
    (λ (s : i ≡ j). not (subst (Names d) (same_at xs j y x h e (subst (λ n. slice_get xs n ≡ Some (y, h)) s here) at).0 named))
    (below_next i j lt)

pub own : (f v : ℕ) → is_of f (Version f v) ≡ true
own f v = eq-eqb f f refl

numbered_once : (g : Pending) (j k : ℕ) (x : Element) (d : Named) → j < k → WaitsAt g j x d → IsNumberedAt g j x → IsNumberedAt g k x → ⊥
numbered_once g j k (Plain n) d lt at here there = absurd (omega (arith, there.2 j n d lt at))
numbered_once g j k (Version f v) d lt at here there = absurd (omega (arith, counted_past f g.waiting j k (Version f v) d lt at (own f v), here.2, there.2))

-- an element is listed once
pub listed_once : (g : Pending) → IsListing g → (j k : ℕ) (x : Element) (d e : Named) → WaitsAt g j x d → WaitsAt g k x e → j ≡ k
listed_once g listing j k x d e first second =
    ⊎_elim
    (λ (s : j ≡ k). s)
    (λ (o : (j < k) ⊎ (k < j)). ⊎_elim
    (λ (l : j < k). absurd (numbered_once g j k x d l first (listing j x d first).number (listing k x e second).number))
    (λ (l : k < j). absurd (numbered_once g k j x e l second (listing k x e second).number (listing j x d first).number))
    o)
    (cases_order j k)

-- what is listed is not persistent
pub listed_not_persistent : (g : Pending) → IsListing g → (k : ℕ) (x : Element) (d : Named) → WaitsAt g k x d → IsPersistent g x → ⊥
listed_not_persistent g listing k (Plain n) d at p = p (k, d, at)
listed_not_persistent g listing k (Version f v) d at p = absurd (omega (arith, (listing k (Version f v) d at).number.2, p))

pub number_from : (g : Pending) (k plain : ℕ) (latest : List ℕ) (x : Element) → IsUpTo g k plain latest → IsNext plain latest x → IsNumberedAt g k x
number_from g k plain latest (Plain n) up next = (omega (arith, next.0), next.1, λ j m d lt at. omega (arith, up.below j m d lt at, next.0))
number_from g k plain latest (Version f v) up next = (omega (arith, next.0, up.families), next.1, omega (arith, next.2, up.versions f))

pub next_from : (g : Pending) (k plain : ℕ) (latest : List ℕ) (x : Element) → IsUpTo g k plain latest → IsNumberedAt g k x → IsNext plain latest x
next_from g k plain latest (Plain n) up number = (
  ⊎_elim (λ (e : plain ≡ 0). omega (arith, e, number.0)) (λ (b : WaitsBefore g k (Plain plain)). number.2 b.0 plain b.1 b.2 b.3) up.found,
  number.1,
)
next_from g k plain latest (Version f v) up number = (omega (arith, number.0, up.families), number.1, omega (arith, number.2, up.versions f))

-- what is named, if it is known and not listed later, is persistent or listed before
pub needs_from : (g : Pending) (k : ℕ) (latest : List ℕ) (d : Named) → ((f : ℕ) → slice_index latest f ≡ slice_index g.persistent f + versions_before g f k) → IsListedTo g k → IsKnown d latest → (NamesFrom g d k → ⊥) → (y : Element) → Names d y → IsPersistent g y ⊎ WaitsBefore g k y
needs_from g k latest d versions listed known none (Plain n) named =
    ⊎_elim
    (λ (b : WaitsBefore g k (Plain n)). inr b)
    (λ (no : WaitsBefore g k (Plain n) → ⊥). inl (λ w. ⊎_elim
    (λ (l : w.0 < k). no (w.0, w.1, l, w.2))
    (λ (l : k ≤ w.0). none (w.0, Plain n, w.1, l, w.2, named))
    (cases_lt w.0 k)))
    (sought g.waiting k (Plain n))
needs_from g k latest d versions listed known none (Version f w) named =
    ⊎_elim
    (λ (l : slice_index g.persistent f < w).
    let lt : w - (slice_index g.persistent f + 1) < counted f k g.waiting = omega (arith, l, known f w named, versions f) in
    let one = one_counted f g.waiting k (w - (slice_index g.persistent f + 1)) lt in
    let family = family_of f one.1 one.5 in
    let at : WaitsAt g one.0 (Version f family.0) one.2 = subst (λ x. WaitsAt g one.0 x one.2) family.1 one.4 in
    let number = (listed one.0 (Version f family.0) one.2 one.3 at).number.2 in
    let same : family.0 ≡ w = omega (arith, number, one.6, l) in
    inr (one.0, one.2, one.3, subst (λ v. WaitsAt g one.0 (Version f v) one.2) same at))
    (λ (l : w ≤ slice_index g.persistent f). inl l)
    (cases_lt (slice_index g.persistent f) w)

known_of : (g : Pending) (k plain : ℕ) (latest : List ℕ) (x : Element) (d : Named) → IsListing g → IsUpTo g k plain latest → WaitsAt g k x d → IsKnown d latest
known_of g k plain latest x d listing up at f v named = ⊎_elim
    (λ (p : IsPersistent g (Version f v)). omega (arith, p, up.versions f))
    (λ (b : WaitsBefore g k (Version f v)). omega (arith, (listing b.0 (Version f v) b.1 b.3).number.2, counted_past f g.waiting b.0 k (Version f v) b.1 b.2 b.3 (own f v), up.versions f))
    ((listing k x d at).needs (Version f v) named)

names_none_from : (g : Pending) (k : ℕ) (x : Element) (d : Named) → IsListing g → WaitsAt g k x d → NamesFrom g d k → ⊥
names_none_from g k x d listing at n =
    ⊎_elim
    (λ (p : IsPersistent g n.1). listed_not_persistent g listing n.0 n.1 n.2 n.4 p)
    (λ (b : WaitsBefore g k n.1). absurd (omega (arith, listed_once g listing b.0 n.0 n.1 b.1 n.2 b.3 n.4, b.2, n.3)))
    ((listing k x d at).needs n.1 n.5)

-- what may stand keeps the rules
pub listed_from : (g : Pending) (k plain : ℕ) (latest : List ℕ) (x : Element) (d : Named) → IsUpTo g k plain latest → IsListedTo g k → MayStand g k plain latest x d → IsListedAt g k x d
listed_from g k plain latest x d up listed may = record {
  number = number_from g k plain latest x up may.0;
  needs = needs_from g k latest d up.versions listed may.1 may.2;
  others = may.3;
}

-- in a list that keeps the rules each element may stand
pub may_stand_from : (g : Pending) (k plain : ℕ) (latest : List ℕ) (x : Element) (d : Named) → IsListing g → IsUpTo g k plain latest → WaitsAt g k x d → MayStand g k plain latest x d
may_stand_from g k plain latest x d listing up at = (
  next_from g k plain latest x up (listing k x d at).number,
  known_of g k plain latest x d listing up at,
  names_none_from g k x d listing at,
  (listing k x d at).others,
)

pub up_to_none : (g : Pending) → IsUpTo g 0 0 g.persistent
up_to_none g = record {
  below = λ j n d lt at. absurd (omega (arith, lt));
  found = inl refl;
  families = refl;
  versions = λ f. omega arith;
}

later : (g : Pending) (k : ℕ) (x : Element) → WaitsBefore g k x → WaitsBefore g (k + 1) x
later g k x b = (b.0, b.1, omega (arith, b.2), b.3)

-- one element more
pub up_to_next : (g : Pending) (k plain : ℕ) (latest : List ℕ) (x : Element) (d : Named) → IsUpTo g k plain latest → WaitsAt g k x d → IsNumberedAt g k x → IsUpTo g (k + 1) (plain_after plain x) (latest_after latest x)
up_to_next g k plain latest (Plain n) d up at number = record {
  below = λ j m e lt here. ⊎_elim
      (λ (l : j < k). omega (arith, number.2 j m e l here))
      (λ (s : j ≡ k). let same : Plain m ≡ Plain n = (same_at g.waiting k (Plain m) (Plain n) e d (subst (λ i. WaitsAt g i (Plain m) e) s here) at).0 in let eq : m ≡ n = cc same in omega (arith, eq))
      (below_next j k lt);
  found = inr (k, d, omega arith, at);
  families = up.families;
  versions = λ f. omega (arith, up.versions f, counted_one f g.waiting k (Plain n) d at);
}
up_to_next g k plain latest (Version c v) d up at number = record {
  below = λ j m e lt here. ⊎_elim
      (λ (l : j < k). up.below j m e l here)
      (λ (s : j ≡ k). let same : Plain m ≡ Version c v = (same_at g.waiting k (Plain m) (Version c v) e d (subst (λ i. WaitsAt g i (Plain m) e) s here) at).0 in cc same)
      (below_next j k lt);
  found = ⊎_elim (λ (z : plain ≡ 0). inl z) (λ (b : WaitsBefore g k (Plain plain)). inr (later g k (Plain plain) b)) up.found;
  families = length-set latest c v ∙ up.families;
  versions = λ f. ⊎_elim (λ (s : f ≡ c). raised f s) (λ (o : f ≡ c → ⊥). kept f o) (cases_eq f c);
}
  where
    raised : (f : ℕ) → f ≡ c → slice_index (slice_set latest c v) f ≡ slice_index g.persistent f + counted f (k + 1) g.waiting
    raised f s =
        let one = counted_one c g.waiting k (Version c v) d at in
        let is : ◌≡◌ {A = ℕ} (cond (is_of c (Version c v)) 1 0) 1 = ap (λ b. cond b 1 0) (own c v) in
        let new : slice_index (slice_set latest c v) c ≡ v = get_or-set_same latest c v 0 (omega (arith, number.0, up.families)) in
        subst (λ i. slice_index (slice_set latest c v) i ≡ slice_index g.persistent i + counted i (k + 1) g.waiting) (sym s) (omega (arith, one, is, new, number.2))

    kept : (f : ℕ) → (f ≡ c → ⊥) → slice_index (slice_set latest c v) f ≡ slice_index g.persistent f + counted f (k + 1) g.waiting
    kept f o =
        let one = counted_one f g.waiting k (Version c v) d at in
        let is : ◌≡◌ {A = ℕ} (cond (is_of f (Version c v)) 1 0) 0 = ap (λ b. cond b 1 0) (ne_eqb f c o) in
        let old : slice_index (slice_set latest c v) f ≡ slice_index latest f = get_or-set_other latest c f v 0 o in
        omega (arith, one, is, old, up.versions f)

pub listed_next : (g : Pending) (k : ℕ) (x : Element) (d : Named) → IsListedTo g k → WaitsAt g k x d → IsListedAt g k x d → IsListedTo g (k + 1)
listed_next g k x d listed at new j y e lt here =
    ⊎_elim
    (λ (l : j < k). listed j y e l here)
    (λ (s : j ≡ k).
    let moved : WaitsAt g k y e = subst (λ i. WaitsAt g i y e) s here in
    let same = same_at g.waiting k x y d e at moved in
    subst (λ i. IsListedAt g i y e) (sym s) (subst (λ h. IsListedAt g k y h) same.1 (subst (λ z. IsListedAt g k z d) same.0 new)))
    (below_next j k lt)

pub all_listed : (g : Pending) (k : ℕ) → length g.waiting ≤ k → IsListedTo g k → IsListing g
all_listed g k le listed j x d at = listed j x d (omega (arith, slice_get_within g.waiting j (x, d) at)) at

pub latest_at_end : (g : Pending) (k plain : ℕ) (latest : List ℕ) → length g.waiting ≤ k → IsUpTo g k plain latest → AreLatest g latest
latest_at_end g k plain latest le up f =
    let e : take k g.waiting ≡ g.waiting = take_all k g.waiting le in
    let h : take (length g.waiting) g.waiting ≡ g.waiting = take_all (length g.waiting) g.waiting (omega arith) in
    up.versions f ∙ ap (λ xs. slice_index g.persistent f + count_by (λ w. is_of f w.0) xs) (e ∙ sym h)
