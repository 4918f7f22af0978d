-- What is named among what waits, collected in order.
use Rattle.std.proofs.Common.{◌≡◌, ℕ, ◌+◌, ◌<◌, ◌≤◌, ◌⊎◌, List, [], ◌∷◌, ◌++◌, length, get_or, slice_index, refl, sym, subst, inl, inr, ⊎_elim, arith}
use Rattle.std.specs.Prelude.{Contains, ◌↔◌, All}
use Rattle.std.proofs.lemmas.Option.{slice_get_within}
use Rattle.std.proofs.lemmas.List.Elements.{Contains-push, Contains-push_cases, Contains-append_left, Contains-get_or}
use Rattle.std.proofs.lemmas.List.Quantifiers.{all_pairs_push}
use Rattle.cs_deps.specs.declared.elements.Element.{Element}
use Rattle.cs_deps.specs.declared.elements.Element.TheVariants.{Plain, Version}
use Rattle.cs_deps.specs.Named.{Named, Names, IsPlain}
use Rattle.cs_deps.specs.Pending.{Pending, WaitsAt, Waits, IsPersistent}
use Rattle.cs_deps.specs.Rounds.{IsListedBefore}
use Rattle.cs_deps.proofs.Within.{below_next, same_at}
use Rattle.cs_check.specs.Listing.{IsListing, WaitsBefore}
use Rattle.cs_check.specs.Progress.{AddsIf, IsListedTill, ListsTill}
use Rattle.cs_check.specs.Written.{IsGreatest, IsListOf, NamesListed, HasLetter}

pub lists_none : (g : Pending) (d : Named) → ListsTill g d 0 0 []
lists_none g d = record {
  members = none;
  order = λ i j e lt within. absurd (omega (arith, within));
}
  where
    none : (x : Element) → Contains [] x ↔ IsListedTill g d 0 0 x
    none (Plain n) = ((λ c. absurd (omega (arith, c.1))), (λ l. absurd (omega (arith, l.0.2))))
    none (Version c v) = ((λ c. absurd (omega (arith, c.1))), (λ l. absurd (omega (arith, l.0))))

later_plain : (g : Pending) (d : Named) (k f : ℕ) (x : Element) → IsListedTill g d k f x → IsListedTill g d (k + 1) f x
later_plain g d k f (Plain n) l = ((l.0.0, l.0.1, omega (arith, l.0.2), l.0.3), l.1)
later_plain g d k f (Version c v) l = l

-- what is new at place k
new_plain : (g : Pending) (d : Named) (k f : ℕ) (x y : Element) (e : Named) → WaitsAt g k x e → IsListedTill g d (k + 1) f y → IsListedTill g d k f y ⊎ ((x ≡ y) × IsPlain x × Names d x)
new_plain g d k f x (Plain n) e at l =
    ⊎_elim
    (λ (lt : l.0.0 < k). inl ((l.0.0, l.0.1, lt, l.0.3), l.1))
    (λ (s : l.0.0 ≡ k).
    let same : x ≡ Plain n = (same_at g.waiting k x (Plain n) e l.0.1 at (subst (λ i. WaitsAt g i (Plain n) l.0.1) s l.0.3)).0 in
    inr (same, subst IsPlain (sym same) tt, subst (Names d) (sym same) l.1))
    (below_next l.0.0 k l.0.2)
new_plain g d k f x (Version c v) e at l = inl l

is_new_plain : (g : Pending) (d : Named) (k f : ℕ) (x : Element) (e : Named) → WaitsAt g k x e → IsPlain x → Names d x → IsListedTill g d (k + 1) f x
is_new_plain g d k f (Plain n) e at plain named = ((k, e, omega arith, at), named)
is_new_plain g d k f (Version c v) e at plain named = absurd plain

before_plain : (g : Pending) (d : Named) (k : ℕ) (x y : Element) (e : Named) → IsListing g → WaitsAt g k x e → IsPlain x → IsListedTill g d k 0 y → IsListedBefore y x
before_plain g d k (Plain n) (Plain m) e listing at plain l = (listing k (Plain n) e at).number.2 l.0.0 m l.0.1 l.0.2 l.0.3
before_plain g d k (Plain n) (Version c v) e listing at plain l = absurd (omega (arith, l.0))
before_plain g d k (Version c v) y e listing at plain l = absurd plain

pub plains_next : (g : Pending) (d : Named) (k : ℕ) (xs new : List Element) (x : Element) (e : Named) → IsListing g → WaitsAt g k x e → ListsTill g d k 0 xs → AddsIf (IsPlain x × Names d x) xs x new → ListsTill g d (k + 1) 0 new
plains_next g d k xs new x e listing at lists adds =
    ⊎_elim
    (λ (a : (IsPlain x × Names d x) × (new ≡ xs ++ x ∷ [])). subst (λ zs. ListsTill g d (k + 1) 0 zs) (sym a.1) (added a.0))
    (λ (s : ((IsPlain x × Names d x) → ⊥) × (new ≡ xs)). subst (λ zs. ListsTill g d (k + 1) 0 zs) (sym s.1) (skipped s.0))
    adds
  where
    added : IsPlain x × Names d x → ListsTill g d (k + 1) 0 (xs ++ x ∷ [])
    added is = record {
      members = λ y. (
        (λ c. ⊎_elim
            (λ (old : Contains xs y). later_plain g d k 0 y ((lists.members y).0 old))
            (λ (s : x ≡ y). subst (λ z. IsListedTill g d (k + 1) 0 z) s (is_new_plain g d k 0 x e at is.0 is.1))
            (Contains-push_cases xs x y c)),
        (λ l. ⊎_elim
            (λ (old : IsListedTill g d k 0 y). Contains-append_left xs (x ∷ []) y ((lists.members y).1 old))
            (λ (s : (x ≡ y) × IsPlain x × Names d x). subst (λ z. Contains (xs ++ x ∷ []) z) s.0 (Contains-push xs x))
            (new_plain g d k 0 x y e at l)),
      );
      order = all_pairs_push IsListedBefore xs x lists.order (λ i z lt. before_plain g d k x (get_or xs i z) e listing at is.0 ((lists.members (get_or xs i z)).0 (Contains-get_or xs i z lt)));
    }

    skipped : ((IsPlain x × Names d x) → ⊥) → ListsTill g d (k + 1) 0 xs
    skipped is = record {
      members = λ y. (
        (λ c. later_plain g d k 0 y ((lists.members y).0 c)),
        (λ l. ⊎_elim
            (λ (old : IsListedTill g d k 0 y). (lists.members y).1 old)
            (λ (s : (x ≡ y) × IsPlain x × Names d x). absurd (is (s.1, s.2)))
            (new_plain g d k 0 x y e at l)),
      );
      order = lists.order;
    }

later_version : (g : Pending) (d : Named) (k f : ℕ) (x : Element) → IsListedTill g d k f x → IsListedTill g d k (f + 1) x
later_version g d k f (Plain n) l = l
later_version g d k f (Version c v) l = (omega (arith, l.0), l.1, l.2)

new_version : (g : Pending) (d : Named) (k f : ℕ) (y : Element) → IsListedTill g d k (f + 1) y → IsListedTill g d k f y ⊎ ((Version f (slice_index d.least f) ≡ y) × (slice_index g.persistent f < slice_index d.least f))
new_version g d k f (Plain n) l = inl l
new_version g d k f (Version c v) l =
    ⊎_elim
    (λ (lt : c < f). inl (lt, l.1, l.2))
    (λ (s : c ≡ f).
    let version : v ≡ slice_index d.least f = subst (λ i. v ≡ slice_index d.least i) s l.2 in
    let same : Version f (slice_index d.least f) ≡ Version c v = cc (s, version) in
    inr (same, subst (λ n. slice_index g.persistent f < n) version (subst (λ i. slice_index g.persistent i < v) s l.1)))
    (below_next c f l.0)

before_version : (g : Pending) (d : Named) (k f v : ℕ) (y : Element) → IsListedTill g d k f y → IsListedBefore y (Version f v)
before_version g d k f v (Plain m) l = tt
before_version g d k f v (Version c w) l = l.0

pub versions_next : (g : Pending) (d : Named) (k f : ℕ) (xs new : List Element) → ListsTill g d k f xs → AddsIf (slice_index g.persistent f < slice_index d.least f) xs (Version f (slice_index d.least f)) new → ListsTill g d k (f + 1) new
versions_next g d k f xs new lists adds =
    ⊎_elim
    (λ (a : (slice_index g.persistent f < slice_index d.least f) × (new ≡ xs ++ Version f (slice_index d.least f) ∷ [])). subst (λ zs. ListsTill g d k (f + 1) zs) (sym a.1) (added a.0))
    (λ (s : ((slice_index g.persistent f < slice_index d.least f) → ⊥) × (new ≡ xs)). subst (λ zs. ListsTill g d k (f + 1) zs) (sym s.1) (skipped s.0))
    adds
  where
    added : slice_index g.persistent f < slice_index d.least f → ListsTill g d k (f + 1) (xs ++ Version f (slice_index d.least f) ∷ [])
    added is = record {
      members = λ y. (
        (λ c. ⊎_elim
            (λ (old : Contains xs y). later_version g d k f y ((lists.members y).0 old))
            (λ (s : Version f (slice_index d.least f) ≡ y). subst (λ z. IsListedTill g d k (f + 1) z) s (omega arith, is, refl))
            (Contains-push_cases xs (Version f (slice_index d.least f)) y c)),
        (λ l. ⊎_elim
            (λ (old : IsListedTill g d k f y). Contains-append_left xs (Version f (slice_index d.least f) ∷ []) y ((lists.members y).1 old))
            (λ (s : (Version f (slice_index d.least f) ≡ y) × (slice_index g.persistent f < slice_index d.least f)). subst (λ z. Contains (xs ++ Version f (slice_index d.least f) ∷ []) z) s.0 (Contains-push xs (Version f (slice_index d.least f))))
            (new_version g d k f y l)),
      );
      order = all_pairs_push IsListedBefore xs (Version f (slice_index d.least f)) lists.order (λ i z lt. before_version g d k f (slice_index d.least f) (get_or xs i z) ((lists.members (get_or xs i z)).0 (Contains-get_or xs i z lt)));
    }

    skipped : ((slice_index g.persistent f < slice_index d.least f) → ⊥) → ListsTill g d k (f + 1) xs
    skipped is = record {
      members = λ y. (
        (λ c. later_version g d k f y ((lists.members y).0 c)),
        (λ l. ⊎_elim
            (λ (old : IsListedTill g d k f y). (lists.members y).1 old)
            (λ (s : (Version f (slice_index d.least f) ≡ y) × (slice_index g.persistent f < slice_index d.least f)). absurd (is s.1))
            (new_version g d k f y l)),
      );
      order = lists.order;
    }

pub list_from : (g : Pending) (d : Named) (k f : ℕ) (xs : List Element) → IsListing g → NamesListed g d → length g.waiting ≤ k → length g.persistent ≤ f → ListsTill g d k f xs → IsListOf g d xs
list_from g d k f xs listing listed le lf lists = record {
  members = λ x. ((λ c. greatest x ((lists.members x).0 c)), (λ is. (lists.members x).1 (till x is)));
  order = lists.order;
}
  where
    greatest : (x : Element) → IsListedTill g d k f x → IsGreatest g d x
    greatest (Plain n) l = ((l.0.0, l.0.1, l.0.3), l.1)
    greatest (Version c v) l =
        let named : Names d (Version c v) = (omega (arith, l.1), omega (arith, l.2)) in
        ⊎_elim
        (λ (p : IsPersistent g (Version c v)). absurd (omega (arith, p, l.1)))
        (λ (w : Waits g (Version c v)). (w, named, λ u other less. omega (arith, less.1, l.2)))
        (listed c v named)

    till : (x : Element) → IsGreatest g d x → IsListedTill g d k f x
    till (Plain n) is = ((is.0.0, is.0.1, omega (arith, le, slice_get_within g.waiting is.0.0 (Plain n, is.0.1) is.0.2), is.0.2), is.1)
    till (Version c v) is =
        let number = (listing is.0.0 (Version c v) is.0.1 is.0.2).number in
        let one : 1 ≤ slice_index d.least c = omega (arith, is.1) in
        let same : slice_index d.least c ≤ slice_index d.least c = omega arith in
        let le_v : slice_index d.least c ≤ v = ⊎_elim
        (λ (p : IsPersistent g (Version c (slice_index d.least c))). omega (arith, p, number.2, is.1.1))
        (λ (w : Waits g (Version c (slice_index d.least c))). is.2 (slice_index d.least c) w (one, same))
        (listed c (slice_index d.least c) (one, same)) in
        (omega (arith, number.0, lf), omega (arith, number.2), omega (arith, le_v, is.1.1))

-- what is listed has a letter
pub list_lettered : (g : Pending) (d : Named) (letters : List ℕ) (xs : List Element) → IsListing g → length letters ≡ length g.persistent → IsListOf g d xs → All (HasLetter letters) xs
list_lettered g d letters xs listing count list i e lt = lettered (get_or xs i e) ((list.members (get_or xs i e)).0 (Contains-get_or xs i e lt))
  where
    lettered : (x : Element) → IsGreatest g d x → HasLetter letters x
    lettered (Plain n) is = tt
    lettered (Version c v) is = omega (arith, (listing is.0.0 (Version c v) is.0.1 is.0.2).number.0, count)

pub waiting_lettered : (g : Pending) (letters : List ℕ) → IsListing g → length letters ≡ length g.persistent → (x : Element) → Waits g x → HasLetter letters x
waiting_lettered g letters listing count (Plain n) w = tt
waiting_lettered g letters listing count (Version c v) w = omega (arith, (listing w.0 (Version c v) w.1 w.2).number.0, count)

-- what the needs of a listed element name is listed
pub needs_listed : (g : Pending) (k : ℕ) (x : Element) (d : Named) → IsListing g → WaitsAt g k x d → NamesListed g d
needs_listed g k x d listing at f v named =
    ⊎_elim
    (λ (p : IsPersistent g (Version f v)). inl p)
    (λ (b : WaitsBefore g k (Version f v)). inr (b.0, b.1, b.3))
    ((listing k x d at).needs (Version f v) named)
