-- What is listed from a place on, and what is less than all of it.
use Rattle.std.proofs.Common.{Bool, true, false, ◌≡◌, ◌∙◌, ℕ, ◌+◌, ◌-◌, ◌<◌, ◌≤◌, List, length, min, set, get_or, slice_index, slice_set, sym, ap, subst, ⊎_elim, arith, get_or-set_same, get_or-set_other}
use Rattle.std.proofs.lemmas.Bool.{cases_lt, cases_eq}
use Rattle.std.proofs.lemmas.List.{get_or_past, length-set}
use Rattle.std.proofs.lemmas.Option.{slice_get_within}
use Rattle.cs_deps.specs.declared.elements.Element.{Element}
use Rattle.cs_deps.specs.declared.elements.Element.TheVariants.{Plain, Version}
use Rattle.cs_deps.specs.Named.{Named, Names, IsWithin}
use Rattle.cs_deps.specs.Pending.{Pending, WaitsAt}
use Rattle.cs_deps.proofs.Within.{same_at}
use Rattle.cs_check.specs.Progress.{AreFloors, NamesFrom, plain_floor, version_floors}
use Rattle.cs_check.proofs.Held.{from_next}

-- a number is lowered to this one, or to none where there is no such place
lowered_there : (floors : List ℕ) (f v : ℕ) → slice_index (slice_set floors f (min (slice_index floors f) (v - 1))) f ≤ v - 1
lowered_there floors f v = ⊎_elim
    (λ (l : f < length floors). omega (arith, get_or-set_same floors f (min (slice_index floors f) (v - 1)) 0 l))
    (λ (past : length floors ≤ f). omega (arith, get_or_past (slice_set floors f (min (slice_index floors f) (v - 1))) f 0 (omega (arith, past, length-set floors f (min (slice_index floors f) (v - 1))))))
    (cases_lt f (length floors))

lowered_all : (floors : List ℕ) (f v c : ℕ) → slice_index (slice_set floors f (min (slice_index floors f) (v - 1))) c ≤ slice_index floors c
lowered_all floors f v c = ⊎_elim
    (λ (s : c ≡ f). ⊎_elim
    (λ (l : f < length floors). omega (arith, ap (λ i. slice_index (slice_set floors f (min (slice_index floors f) (v - 1))) i) s, ap (λ i. slice_index floors i) s, get_or-set_same floors f (min (slice_index floors f) (v - 1)) 0 l))
    (λ (past : length floors ≤ f). omega (arith, get_or_past (slice_set floors f (min (slice_index floors f) (v - 1))) c 0 (omega (arith, s, past, length-set floors f (min (slice_index floors f) (v - 1))))))
    (cases_lt f (length floors)))
    (λ (o : c ≡ f → ⊥). omega (arith, get_or-set_other floors f c (min (slice_index floors f) (v - 1)) 0 o))
    (cases_eq c f)

pub floors_next : (g : Pending) (k floor : ℕ) (floors : List ℕ) (x : Element) (d : Named) → WaitsAt g k x d → AreFloors g (k + 1) floor floors → AreFloors g k (plain_floor floor x) (version_floors floors x)
floors_next g k floor floors (Plain n) d at before = record {
  plain = λ j m e le here. ⊎_elim
      (λ (l : k + 1 ≤ j). omega (arith, before.plain j m e l here))
      (λ (s : j ≡ k). let same : Plain m ≡ Plain n = (same_at g.waiting k (Plain m) (Plain n) e d (subst (λ i. WaitsAt g i (Plain m) e) s here) at).0 in let number : m ≡ n = cc same in omega (arith, number))
      (from_next k j le);
  version = λ j f v e le here. ⊎_elim
      (λ (l : k + 1 ≤ j). before.version j f v e l here)
      (λ (s : j ≡ k). let same : Version f v ≡ Plain n = (same_at g.waiting k (Version f v) (Plain n) e d (subst (λ i. WaitsAt g i (Version f v) e) s here) at).0 in absurd (cc same))
      (from_next k j le);
}
floors_next g k floor floors (Version c u) d at before = record {
  plain = λ j m e le here. ⊎_elim
      (λ (l : k + 1 ≤ j). before.plain j m e l here)
      (λ (s : j ≡ k). let same : Plain m ≡ Version c u = (same_at g.waiting k (Plain m) (Version c u) e d (subst (λ i. WaitsAt g i (Plain m) e) s here) at).0 in absurd (cc same))
      (from_next k j le);
  version = λ j f v e le here. ⊎_elim
      (λ (l : k + 1 ≤ j). omega (arith, lowered_all floors c u f, before.version j f v e l here))
      (λ (s : j ≡ k).
      let same : Version f v ≡ Version c u = (same_at g.waiting k (Version f v) (Version c u) e d (subst (λ i. WaitsAt g i (Version f v) e) s here) at).0 in
      let family : f ≡ c = cc same in
      let number : v ≡ u = cc same in
      omega (arith, number, ap (λ i. slice_index (slice_set floors c (min (slice_index floors c) (u - 1))) i) family, lowered_there floors c u))
      (from_next k j le);
}

-- what is less than all that is listed from there on is not listed there
pub none_from : (g : Pending) (k floor : ℕ) (floors : List ℕ) (d : Named) → AreFloors g k floor floors → IsWithin d (floor - 1) floors → NamesFrom g d k → ⊥
none_from g k floor floors d are inside n = from n.0 n.1 n.2 n.3 n.4 n.5
  where
    from : (j : ℕ) (x : Element) (e : Named) → k ≤ j → WaitsAt g j x e → Names d x → ⊥
    from j (Plain m) e le at named = omega (arith, are.plain j m e le at, inside (Plain m) named)
    from j (Version f v) e le at named = omega (arith, are.version j f v e le at, inside (Version f v) named, named.0)

-- one place more is looked at
pub back_next : (g : Pending) (k floor : ℕ) (floors : List ℕ) (flags : List Bool) (x : Element) (d : Named) (flag : Bool) → WaitsAt g k x d → length flags ≡ length g.waiting → AreFloors g k floor floors → (flag ≡ true → IsWithin d (floor - 1) floors)
    → ((j : ℕ) (y : Element) (e : Named) → k + 1 ≤ j → WaitsAt g j y e → get_or flags j false ≡ true → NamesFrom g e j → ⊥)
    → (j : ℕ) (y : Element) (e : Named) → k ≤ j → WaitsAt g j y e → get_or (set flags k flag) j false ≡ true → NamesFrom g e j → ⊥
back_next g k floor floors flags x d flag at count are inside before j y e le here set' names =
    ⊎_elim
    (λ (l : k + 1 ≤ j). before j y e l here (sym (get_or-set_other flags k j flag false (λ (s : j ≡ k). absurd (omega (arith, s, l)))) ∙ set') names)
    (λ (s : j ≡ k).
    let same = same_at g.waiting k y x e d (subst (λ i. WaitsAt g i y e) s here) at in
    let is : flag ≡ true = sym (get_or-set_same flags k flag false (omega (arith, count, slice_get_within g.waiting k (x, d) at))) ∙ sym (ap (λ i. get_or (set flags k flag) i false) s) ∙ set' in
    none_from g k floor floors d are (inside is) (subst (λ h. NamesFrom g h k) same.1 (subst (λ i. NamesFrom g e i) s names)))
    (from_next k j le)
