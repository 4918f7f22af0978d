-- Views that differ in how their needs are written alone.
use Rattle.std.proofs.Common.{◌≡◌, ℕ, zero, suc, ◌<◌, ◌≤◌, List, [], ◌∷◌, length, slice_index, refl, ap, subst, inl, inr, ⊎_elim, arith}
use Rattle.std.specs.Prelude.{All}
use Rattle.std.proofs.lemmas.List.Elements.{All-weaker}
use Rattle.cs_deps.specs.declared.elements.Element.{Element}
use Rattle.cs_deps.specs.declared.elements.Element.TheVariants.{Plain, Version}
use Rattle.cs_deps.specs.Named.{Named, Names}
use Rattle.cs_deps.specs.Pending.{Pending, WaitsAt, Waits, IsPersistent}
use Rattle.cs_check.specs.Listing.{IsWellFormed, IsListing, IsListedAt, IsNumberedAt, NamesOthers, WaitsBefore, is_of}
use Rattle.cs_check.specs.Documents.{elements_in}
use Rattle.cs_check.proofs.Counts.{counted, counted_cons}

-- what waits in h waits there in g, and names no more
abbrev pub NamesWithin : Pending → Pending → Type 0
NamesWithin h g = (k : ℕ) (x : Element) (n : Named) → WaitsAt h k x n → (m : Named) × WaitsAt g k x m × ((y : Element) → Names n y → Names m y)

pub record AreAlike (g h : Pending) : Type 0 where
  pub persistent : g.persistent ≡ h.persistent
  pub elements : elements_in g.waiting ≡ elements_in h.waiting
  pub there : NamesWithin h g
  -- what waits in g waits there in h, whatever it names
  pub back : (k : ℕ) (x : Element) (n : Named) → WaitsAt g k x n → (m : Named) × WaitsAt h k x m

counted_alike : (f k : ℕ) (ws vs : List (Element × Named)) → elements_in ws ≡ elements_in vs → counted f k ws ≡ counted f k vs
counted_alike f zero ws vs e = refl
counted_alike f (suc k) [] [] e = refl
counted_alike f (suc k) [] (v ∷ vs) e = cc e
counted_alike f (suc k) (w ∷ ws) [] e = cc e
counted_alike f (suc k) (w ∷ ws) (v ∷ vs) e =
    let head : w.0 ≡ v.0 = cc e in
    let rest : elements_in ws ≡ elements_in vs = cc e in
    let i = counted_alike f k ws vs rest in
    let a = counted_cons f k w ws (is_of f v.0) (ap (is_of f) head) in
    let b = counted_cons f k v vs (is_of f v.0) refl in
    omega (arith, i, a, b)

waits_alike : (g h : Pending) → AreAlike g h → (x : Element) → Waits g x → Waits h x
waits_alike g h alike x w = let r = alike.back w.0 x w.1 w.2 in (w.0, r.0, r.1)

persistent_alike : (g h : Pending) → AreAlike g h → (y : Element) → IsPersistent g y → IsPersistent h y
persistent_alike g h alike (Plain n) p = λ w. let r = alike.there w.0 (Plain n) w.1 w.2 in p (w.0, r.0, r.1)
persistent_alike g h alike (Version f v) p = subst (λ vs. v ≤ slice_index vs f) alike.persistent p

number_alike : (g h : Pending) → AreAlike g h → (k : ℕ) (x : Element) → IsNumberedAt g k x → IsNumberedAt h k x
number_alike g h alike k (Plain n) is = (is.0, is.1, λ j m d lt at. let r = alike.there j (Plain m) d at in is.2 j m r.0 lt r.1)
number_alike g h alike k (Version f v) is = (
  subst (λ vs. f < length vs) alike.persistent is.0,
  is.1,
  omega (arith, is.2, ap (λ vs. slice_index vs f) alike.persistent, counted_alike f k g.waiting h.waiting alike.elements),
)

others_alike : (g h : Pending) → AreAlike g h → (x : Element) (m n : Named) → ((y : Element) → Names n y → Names m y) → NamesOthers g x m → NamesOthers h x n
others_alike g h alike (Plain k) m n less is = tt
others_alike g h alike (Version f v) m n less is = λ w named. persistent_alike g h alike (Version f w) (is w (less (Version f w) named))

pub well_formed_alike : (g h : Pending) → AreAlike g h → (t u : Named) → ((y : Element) → Names u y → Names t y) → (rounds : List (List Element)) (chain : List Element) → IsWellFormed g t rounds chain → IsWellFormed h u rounds chain
well_formed_alike g h alike t u less rounds chain is = record {
  families = subst (λ (vs : List ℕ). (1 ≤ length vs) × (length vs ≤ 16)) alike.persistent is.families;
  persistent = subst (λ (vs : List ℕ). All (λ v. v < 9223372036854775808) vs) alike.persistent is.persistent;
  elements = listed;
  schedule = All-weaker (λ (xs : List Element). All (Waits g) xs) (λ (xs : List Element). All (Waits h) xs) (λ xs all. All-weaker (Waits g) (Waits h) (λ x w. waits_alike g h alike x w) xs all) rounds is.schedule;
  once = is.once;
  links = All-weaker (Waits g) (Waits h) (λ x w. waits_alike g h alike x w) chain is.links;
}
  where
    listed : IsListing h
    listed k x n at =
        let r = alike.there k x n at in
        let old : IsListedAt g k x r.0 = is.elements k x r.0 r.1 in
        record {
          number = number_alike g h alike k x old.number;
          needs = λ y named. ⊎_elim
              (λ (p : IsPersistent g y). inl (persistent_alike g h alike y p))
              (λ (b : WaitsBefore g k y). let w = alike.back b.0 y b.1 b.3 in inr (b.0, w.0, b.2, w.1))
              (old.needs y (r.2 y named));
          others = others_alike g h alike x r.0 n r.2 old.others;
        }
