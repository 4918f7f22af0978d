-- What both halves of the pairs of a store hold, after writes to them.
use Rattle.std.proofs.Common.{◌≡◌, ◌≢◌, ⊎_elim, if◌then◌else◌, ◌==◌, ℕ, zero, suc, ◌<◌, ◌≤◌, Bool, true, false, List, [], ◌∷◌, ◌++◌, Some, slice_get, refl, sym, ◌∙◌, ap, subst, arith}
use Rattle.std.proofs.lemmas.Bool.{cases_eq}
use Rattle.std.proofs.lemmas.Option.{same_Some}
use Rattle.cs_disk.specs.Disk.{Write, latest}
use Rattle.cs_frame.specs.Geometries.{Dimensions, IsGeometry}
use Rattle.law_machine.specs.Geometry.{twins_in}
use Rattle.cs_twin.specs.Pairs.{half}
use Rattle.cs_twin.proofs.Roles.{if_other, if_same}
use Rattle.cs_twin.proofs.Shown.{Each}
use Rattle.cs_mount.specs.Makings.{both_halves, halves_up_to, new_page}
use Rattle.cs_mount.specs.StorePairs.{store_pair}
use Rattle.cs_mount.proofs.Unpaired.{are_pairs, pair_there}

pub latest_append : (first more : List Write) (p : ℕ) (bytes : List ℕ) → latest (first ++ more) p bytes ≡ latest more p (latest first p bytes)
latest_append [] more p bytes = refl
latest_append (w ∷ first) more p bytes = latest_append first more p (if w.0 == p then w.1 else bytes)

-- the writes to a page, by whether they go there
pub latest_here : (q p : ℕ) (bytes new : List ℕ) → q ≡ p → latest ((q, new) ∷ []) p bytes ≡ new
latest_here q p bytes new here = subst (λ r. (if q == r then new else bytes) ≡ new) here (if_same q new bytes)

pub latest_there : (q p : ℕ) (bytes new : List ℕ) → (q ≡ p → ⊥) → latest ((q, new) ∷ []) p bytes ≡ bytes
latest_there q p bytes new other = if_other q p new bytes other

each_append : (P : Write → Type 0) (first more : List Write) → Each P first → Each P more → (i : ℕ) (w : Write) → slice_get (first ++ more) i ≡ Some w → P w
each_append P [] more front back i w at = back i w at
each_append P (x ∷ first) more front back zero w at = front 0 w at
each_append P (x ∷ first) more front back (suc i) w at = each_append P first more (λ j v there. front (suc j) v there) back i w at

module _ (d : Dimensions) (g : IsGeometry d.format d.extents d.pages d.sections) (twins : twins_in d.format ≡ true) where
  -- pairs of a store lie apart, by their places
  pub one_place : (i j : ℕ) (b c : Bool) → i ≤ d.sections → j ≤ d.sections → half (store_pair d i) b ≡ half (store_pair d j) c → (i ≡ j) × (b ≡ c)
  one_place i j b c le_i le_j same = (are_pairs d g twins).apart i j (store_pair d i) (store_pair d j) b c (pair_there d g twins i le_i) (pair_there d g twins j le_j) same

  other_place : (i j : ℕ) (b c : Bool) → i ≤ d.sections → j ≤ d.sections → (i ≡ j → ⊥) → half (store_pair d i) b ≡ half (store_pair d j) c → ⊥
  other_place i j b c le_i le_j other same = other (one_place i j b c le_i le_j same).0

  -- what is written to both halves of a pair is there
  pub both_there : (k : ℕ) (twin : Bool) (bytes : List ℕ) → k ≤ d.sections → latest (both_halves d k) (half (store_pair d k) twin) bytes ≡ new_page d k
  both_there k true bytes le = if_same (store_pair d k).twin _ _
  both_there k false bytes le =
      if_other (store_pair d k).twin (store_pair d k).page _ _ (λ same. let clash : true ≡ false = (one_place k k true false le le same).1 in cc)
      ∙ if_same (store_pair d k).page _ _

  pub both_other : (k p : ℕ) (bytes : List ℕ) → ((twin : Bool) → half (store_pair d k) twin ≡ p → ⊥) → latest (both_halves d k) p bytes ≡ bytes
  both_other k p bytes none = if_other (store_pair d k).twin p _ _ (none true) ∙ if_other (store_pair d k).page p _ _ (none false)

  pub halves_there : (n k : ℕ) (twin : Bool) (bytes : List ℕ) → n ≤ d.sections → 0 < k → k ≤ n → latest (halves_up_to d n) (half (store_pair d k) twin) bytes ≡ new_page d k
  halves_there zero k twin bytes le some few = absurd (omega (arith, some, few))
  halves_there (suc n) k twin bytes le some few =
      let p = half (store_pair d k) twin in
      latest_append (halves_up_to d n) (both_halves d (suc n)) p bytes
      ∙ ⊎_elim
      (λ (here : suc n ≡ k). subst (λ m. latest (both_halves d m) p (latest (halves_up_to d n) p bytes) ≡ new_page d k) (sym here) (both_there k twin (latest (halves_up_to d n) p bytes) (omega (arith, le, few))))
      (λ (other : suc n ≢ k).
      both_other (suc n) p (latest (halves_up_to d n) p bytes) (λ b same. other_place (suc n) k b twin (omega (arith, le)) (omega (arith, le, few)) other same)
      ∙ halves_there n k twin bytes (omega (arith, le)) some (omega (arith, few, other)))
      (cases_eq (suc n) k)

  pub halves_other : (n p : ℕ) (bytes : List ℕ) → ((k : ℕ) (twin : Bool) → 0 < k → k ≤ n → half (store_pair d k) twin ≡ p → ⊥) → latest (halves_up_to d n) p bytes ≡ bytes
  halves_other zero p bytes none = refl
  halves_other (suc n) p bytes none =
      latest_append (halves_up_to d n) (both_halves d (suc n)) p bytes
      ∙ both_other (suc n) p (latest (halves_up_to d n) p bytes) (λ b same. none (suc n) b (omega arith) (omega arith) same)
      ∙ halves_other n p bytes (λ k twin some le. none k twin some (omega (arith, le)))

  -- each of them goes to such a half
  abbrev GoesToHalf : ℕ → Write → Type 0
  GoesToHalf n w = (k : ℕ) × (twin : Bool) × (0 < k) × (k ≤ n) × (w.0 ≡ half (store_pair d k) twin)

  both_go : (n : ℕ) → Each (GoesToHalf (suc n)) (both_halves d (suc n))
  both_go n zero w at = (suc n, false, omega arith, omega arith, sym (ap (λ (z : Write). z.0) (same_Some ((store_pair d (suc n)).page, new_page d (suc n)) w at)))
  both_go n (suc zero) w at = (suc n, true, omega arith, omega arith, sym (ap (λ (z : Write). z.0) (same_Some ((store_pair d (suc n)).twin, new_page d (suc n)) w at)))
  both_go n (suc (suc i)) w at = cc

  pub halves_go : (n : ℕ) → Each (GoesToHalf n) (halves_up_to d n)
  halves_go zero i w at = cc
  halves_go (suc n) i w at = each_append (GoesToHalf (suc n)) (halves_up_to d n) (both_halves d (suc n))
      (λ j v there. let goes = halves_go n j v there in (goes.0, goes.1, goes.2, (let le = goes.3 in omega (arith, le)), goes.4)) (both_go n) i w at

  -- so none goes to a half of the first pair
  pub none_first : (n : ℕ) (b : Bool) → n ≤ d.sections → Each (λ w. w.0 ≡ half (store_pair d 0) b → ⊥) (halves_up_to d n)
  none_first n b le i w at goes =
      let where_it = halves_go n i w at in
      let few = where_it.3 in
      let some = where_it.2 in
      other_place where_it.0 0 where_it.1 b (omega (arith, few, le)) (omega arith) (λ is. omega (arith, some, is)) (sym where_it.4 ∙ goes)
