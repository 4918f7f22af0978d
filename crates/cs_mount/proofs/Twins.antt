-- The pairs of a store lie apart.
use Rattle.std.proofs.Common.{◌≡◌, ⊎_elim, if◌then◌else◌, ℕ, zero, suc, ◌+◌, ◌-◌, ◌*◌, ◌<◌, ◌≤◌, Bool, true, false, List, [], ◌∷◌, ◌++◌, Some, slice_get, map, nat_lt, refl, sym, ◌∙◌, ap, subst, arith}
use Rattle.std.proofs.lemmas.Bool.{cases_lt}
use Rattle.std.proofs.lemmas.List.FromFn.{map-range_with_len_more}
use Rattle.std.proofs.lemmas.Bool.Decides.{nat_tests}
use Rattle.std.proofs.Math.Nat.{le-mul_of_pos_right}
use Rattle.std.proofs.lemmas.Option.{same_Some}
use Rattle.std.specs.List.{range_with_len}
use Rattle.cs_frame.specs.Geometries.{Dimensions, FitsDevice, IsGeometry, device_pages}
use Rattle.cs_frame.proofs.GeometryLaws.{bounds}
use Rattle.law_machine.specs.Format.{Format, Four, Two}
use Rattle.law_machine.specs.Geometry.{twins_in}
use Rattle.cs_twin.specs.declared.pairs.Pair.{Pair}
use Rattle.cs_twin.specs.Pairs.{ArePairs, half}
use Rattle.cs_mount.specs.StorePairs.{pages_of, store_pair, store_pairs}

-- an element of a list that is made of its places
pub made_at : {A : Type 0} (f : ℕ → A) (a n k : ℕ) (x : A) → slice_get (map f (range_with_len a n)) k ≡ Some x → (k < n) × (f (a + k) ≡ x)
made_at f a zero k x at = cc
made_at f a (suc n) zero x at = (omega arith, ap f (omega arith) ∙ same_Some (f a) x at)
made_at f a (suc n) (suc k) x at = let more = made_at f (a + 1) n k x at in (omega (arith, more.0), ap f (omega arith) ∙ more.1)

-- the page of a pair
pub low : (F k : ℕ) → k < 2 → (if nat_lt k 2 then k else F + k) ≡ k
low F k lt = grind (arith, nat_tests)

pub high : (F k : ℕ) → 2 ≤ k → (if nat_lt k 2 then k else F + k) ≡ F + k
high F k le = grind (arith, nat_tests)

-- frames, pages of the device, and sections
module _ (F N S : ℕ) (some : 2 ≤ F) (total : 2 + F + 2 * S ≤ N) where
  abbrev at : ℕ → Bool → ℕ
  at k twin = if twin then N - (1 + k) else (if nat_lt k 2 then k else F + k)

  own_below : (k : ℕ) → k ≤ S → at k false ≤ F + S
  own_below k le = ⊎_elim (λ (lt : k < 2). let is = low F k lt in omega (arith, is, some, lt)) (λ (ge : 2 ≤ k). let is = high F k ge in omega (arith, is, le)) (cases_lt k 2)

  twin_above : (k : ℕ) → k ≤ S → (F + S < at k true) × (at k true < N)
  twin_above k le = (omega (arith, le, total), omega (arith, le, total))

  own_one : (i j : ℕ) → at i false ≡ at j false → i ≡ j
  own_one i j same = ⊎_elim
      (λ (a : i < 2). ⊎_elim
      (λ (b : j < 2). let x = low F i a in let y = low F j b in omega (arith, x, y, same))
      (λ (b : 2 ≤ j). let x = low F i a in let y = high F j b in omega (arith, x, y, same, some, a, b))
      (cases_lt j 2))
      (λ (a : 2 ≤ i). ⊎_elim
      (λ (b : j < 2). let x = high F i a in let y = low F j b in omega (arith, x, y, same, some, a, b))
      (λ (b : 2 ≤ j). let x = high F i a in let y = high F j b in omega (arith, x, y, same))
      (cases_lt j 2))
      (cases_lt i 2)

  within : (k : ℕ) (twin : Bool) → k ≤ S → at k twin < N
  within k true le = (twin_above k le).1
  within k false le = let below = own_below k le in omega (arith, below, total)

  one_place : (i j : ℕ) (b c : Bool) → i ≤ S → j ≤ S → at i b ≡ at j c → (i ≡ j) × (b ≡ c)
  one_place i j true true a b same = (omega (arith, same, a, b, total), refl)
  one_place i j true false a b same = let x = (twin_above i a).0 in let y = own_below j b in absurd (omega (arith, x, y, same))
  one_place i j false true a b same = let x = own_below i a in let y = (twin_above j b).0 in absurd (omega (arith, x, y, same))
  one_place i j false false a b same = (own_one i j same, refl)

-- a store has frames
pub frames : (d : Dimensions) → IsGeometry d.format d.extents d.pages d.sections → twins_in d.format ≡ true → 2 ≤ d.extents * d.pages
frames d g twins =
    let many = (bounds d.format d.extents d.pages d.sections g).fewest_extents in
    let some = le-mul_of_pos_right {m = d.pages} d.extents (omega (arith, g.fewest_pages)) in
    omega (arith, many, some)

room_in : (format : Format) (extents pages sections : ℕ) → twins_in format ≡ true → FitsDevice format extents pages sections → 2 + extents * pages + 2 * sections ≤ device_pages format extents pages sections
room_in Two extents pages sections twins fits = cc twins
room_in (Four store device) extents pages sections twins fits = fits

-- The device has room for two of the root and of each section.
pub total_pages : (d : Dimensions) → IsGeometry d.format d.extents d.pages d.sections → twins_in d.format ≡ true → 2 + d.extents * d.pages + 2 * d.sections ≤ pages_of d
total_pages d g twins = room_in d.format d.extents d.pages d.sections twins g.fits_device

-- The pairs of a store lie apart, on its device.
pub are_store_pairs : (d : Dimensions) → IsGeometry d.format d.extents d.pages d.sections → twins_in d.format ≡ true → ArePairs (map (store_pair d) (range_with_len 0 (1 + d.sections))) (pages_of d)
are_store_pairs d g twins =
    let F = d.extents * d.pages in
    let N = pages_of d in
    let some = frames d g twins in
    let total = total_pages d g twins in
    record {
      inside = λ k x twin at_k.
          let made = made_at (store_pair d) 0 (1 + d.sections) k x at_k in
          let here : store_pair d k ≡ x = ap (store_pair d) (omega arith) ∙ made.1 in
          subst (λ (y : Pair). half y twin < N) here (within F N d.sections some total k twin (omega (arith, made.0)));
      apart = λ i j x y b c at_i at_j same.
          let one = made_at (store_pair d) 0 (1 + d.sections) i x at_i in
          let two = made_at (store_pair d) 0 (1 + d.sections) j y at_j in
          let left : store_pair d i ≡ x = ap (store_pair d) (omega arith) ∙ one.1 in
          let right : store_pair d j ≡ y = ap (store_pair d) (omega arith) ∙ two.1 in
          one_place F N d.sections some total i j b c (omega (arith, one.0)) (omega (arith, two.0)) (ap (λ (z : Pair). half z b) left ∙ same ∙ sym (ap (λ (z : Pair). half z c) right));
    }

no_pairs : (n : ℕ) → ArePairs [] n
no_pairs n = record { inside = λ k x twin at. cc; apart = λ i j x y b c at_i at_j same. cc }

-- one pair more was listed
pub pairs_more : (d : Dimensions) (pairs new : List Pair) (k : ℕ) (x : Pair) → pairs ≡ map (store_pair d) (range_with_len 0 k) → x ≡ store_pair d k → new ≡ pairs ++ x ∷ [] → new ≡ map (store_pair d) (range_with_len 0 (k + 1))
pairs_more d pairs new k x before is pushed =
    pushed ∙ ap (λ (l : List Pair). l ++ x ∷ []) before ∙ ap (λ (y : Pair). map (store_pair d) (range_with_len 0 k) ++ y ∷ []) is ∙ sym (map-range_with_len_more (store_pair d) 0 k k (omega arith))

-- and all
pub listed : (d : Dimensions) (pairs : List Pair) (k : ℕ) → twins_in d.format ≡ true → k ≡ 1 + d.sections → pairs ≡ map (store_pair d) (range_with_len 0 k) → pairs ≡ store_pairs d
listed d pairs k twins all is =
    is ∙ ap (λ n. map (store_pair d) (range_with_len 0 n)) all ∙ sym (ap (λ (b : Bool). if b then map (store_pair d) (range_with_len 0 (1 + d.sections)) else []) twins)

pub listed_apart : (d : Dimensions) (pairs : List Pair) (k : ℕ) → IsGeometry d.format d.extents d.pages d.sections → twins_in d.format ≡ true → k ≡ 1 + d.sections → pairs ≡ map (store_pair d) (range_with_len 0 k) → ArePairs pairs (pages_of d)
listed_apart d pairs k g twins all is = subst (λ (l : List Pair). ArePairs l (pages_of d)) (sym (is ∙ ap (λ n. map (store_pair d) (range_with_len 0 n)) all)) (are_store_pairs d g twins)

pub unlisted : (d : Dimensions) (pairs : List Pair) → twins_in d.format ≡ false → pairs ≡ [] → pairs ≡ store_pairs d
unlisted d pairs other none = none ∙ sym (ap (λ (b : Bool). if b then map (store_pair d) (range_with_len 0 (1 + d.sections)) else []) other)

pub unlisted_apart : (pairs : List Pair) (n : ℕ) → pairs ≡ [] → ArePairs pairs n
unlisted_apart pairs n none = subst (λ (l : List Pair). ArePairs l n) (sym none) (no_pairs n)
