-- What a picture shows of needs is what a document names.
use Rattle.std.proofs.Common.{◌≡◌, ◌≤◌, ◌↔◌, ◌⊎◌, ℕ, List, [], ◌∷◌, Bool, true, false, cond, arith, sym, subst, ap, ◌∙◌, refl, inl, inr, slice_index}
use Rattle.std.specs.Prelude.{Contains, filter, nat_le, ◌==◌}
use Rattle.std.proofs.lemmas.Bool.{leb-true, le-leb, eqb-true, eq-eqb}
use Rattle.std.proofs.lemmas.List.Elements.{All-contains, All-contains_itself, All-filter, Contains-append_cases, Contains-append_left, Contains-append_right, Contains-push, Contains-push_cases, filter_passes}
use Rattle.cs_deps.specs.declared.elements.Element.{Element}
use Rattle.cs_deps.specs.declared.elements.Element.TheVariants.{Plain, Version}
use Rattle.cs_deps.specs.Named.{Named, Names}
use Rattle.cs_deps.specs.Pending.{IsPersistent, Pending, Waits, WaitsAt}
use Rattle.cs_check.specs.Documents.{elements_in}
use Rattle.cs_check.specs.Listing.{IsListing, WaitsBefore}
use Rattle.cs_check.specs.Written.{IsGreatest, NamesListed}
use Rattle.cs_check.proofs.ValueSteps.{listed_iff}
use Rattle.cs_picture.specs.Picture.{is_named, named_in}
use Rattle.cs_picture.proofs.Tests.{are_both, both, from_plain, plain_from}

module _ {X : Type 0} (p : X → Bool) where
  from_filter : (xs : List X) (x : X) → Contains (filter p xs) x → Contains xs x × (p x ≡ true)
  from_filter xs x c = (
    All-contains (Contains xs) (filter p xs) x (All-filter p (Contains xs) xs (All-contains_itself xs)) c,
    All-contains (λ y. p y ≡ true) (filter p xs) x (filter_passes p xs) c,
  )

  kept_head : (b : Bool) (x y : X) (xs : List X) → b ≡ true → x ≡ y → Contains (cond b (x ∷ xs) xs) y
  kept_head b x y xs t e =
      subst (λ (z : X). Contains (cond b (x ∷ xs) xs) z) e (subst (λ (c : Bool). Contains (cond c (x ∷ xs) xs) x) (sym t) (Contains-append_left (x ∷ []) xs x (Contains-push [] x)))

  kept_tail : (b : Bool) (x y : X) (xs : List X) → Contains xs y → Contains (cond b (x ∷ xs) xs) y
  kept_tail true x y xs c = Contains-append_right (x ∷ []) xs y c
  kept_tail false x y xs c = c

  to_filter : (xs : List X) (y : X) → Contains xs y → p y ≡ true → Contains (filter p xs) y
  to_filter [] y c t = absurd (omega (arith, c.1))
  to_filter (x ∷ xs) y c t = go (to_filter xs y) (Contains-append_cases (x ∷ []) xs y c)
    where
      head : Contains [] y ⊎ (x ≡ y) → Contains (filter p (x ∷ xs)) y
      head (inl n) = absurd (omega (arith, n.1))
      head (inr e) = kept_head (p x) x y (filter p xs) (ap p e ∙ t) e

      go : (Contains xs y → p y ≡ true → Contains (filter p xs) y) → Contains (x ∷ []) y ⊎ Contains xs y → Contains (filter p (x ∷ xs)) y
      go again (inl h) = head (Contains-push_cases [] x y h)
      go again (inr h) = kept_tail (p x) x y (filter p xs) (again h t)

version_from : (d : Named) (f v : ℕ) → is_named d (Version f v) ≡ true → (1 ≤ v) × (v ≡ slice_index d.least f)
version_from d f v h = let k = both (nat_le 1 v) (v == slice_index d.least f) h in (leb-true 1 v k.0, eqb-true v (slice_index d.least f) k.1)

from_version : (d : Named) (f v : ℕ) → 1 ≤ v → v ≡ slice_index d.least f → is_named d (Version f v) ≡ true
from_version d f v h e = are_both (nat_le 1 v) (v == slice_index d.least f) (le-leb 1 v h) (eq-eqb v (slice_index d.least f) e)

-- the greatest version that waits and is named is the last that is named
is_last : (g : Pending) (d : Named) (f v : ℕ) → IsListing g → NamesListed g d → IsGreatest g d (Version f v) → v ≡ slice_index d.least f
is_last g d f v listing listed h = go (listed f (slice_index d.least f) named)
  where
    named : Names d (Version f (slice_index d.least f))
    named = (omega (arith, h.1.0, h.1.1), omega arith)

    go : IsPersistent g (Version f (slice_index d.least f)) ⊎ Waits g (Version f (slice_index d.least f)) → v ≡ slice_index d.least f
    go (inl past) = let at = listing h.0.0 (Version f v) h.0.1 h.0.2 in omega (arith, past, at.number.2, h.1.1)
    go (inr waits) = omega (arith, h.2 (slice_index d.least f) waits named, h.1.1)

pub named_is : (g : Pending) (d : Named) (y : Element) → IsListing g → NamesListed g d → Contains (named_in g.waiting d) y ↔ IsGreatest g d y
named_is g d (Plain n) listing listed = (
  (λ c. let k = from_filter (is_named d) (elements_in g.waiting) (Plain n) c in ((listed_iff g.waiting (Plain n)).1 k.0, plain_from d n k.1)),
  (λ h. to_filter (is_named d) (elements_in g.waiting) (Plain n) ((listed_iff g.waiting (Plain n)).0 h.0) (from_plain d n h.1)),
)
named_is g d (Version f v) listing listed = (
  (λ c.
      let k = from_filter (is_named d) (elements_in g.waiting) (Version f v) c in
      let t = version_from d f v k.1 in
      ((listed_iff g.waiting (Version f v)).1 k.0, (t.0, omega (arith, t.1)), λ w waits names. omega (arith, t.1, names.1))),
  (λ h. to_filter (is_named d) (elements_in g.waiting) (Version f v) ((listed_iff g.waiting (Version f v)).0 h.0) (from_version d f v h.1.0 (is_last g d f v listing listed h))),
)

-- what a listed element needs is persistent or listed
pub needs_listed : (g : Pending) (k : ℕ) (x : Element) (d : Named) → IsListing g → WaitsAt g k x d → NamesListed g d
needs_listed g k x d listing at f v names = go ((listing k x d at).needs (Version f v) names)
  where
    go : IsPersistent g (Version f v) ⊎ WaitsBefore g k (Version f v) → IsPersistent g (Version f v) ⊎ Waits g (Version f v)
    go (inl h) = inl h
    go (inr h) = inr (h.0, h.1, h.3)
