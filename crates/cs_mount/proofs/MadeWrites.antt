-- What the halves of a store's pairs hold where sections that are lost are written anew.
use Rattle.std.proofs.Common.{◌≡◌, ◌≢◌, ⊎_elim, if◌then◌else◌, ◌==◌, ◌&&◌, ℕ, zero, suc, ◌+◌, ◌<◌, ◌≤◌, Bool, true, false, not, List, [], ◌∷◌, ◌++◌, map, max, Some, refl, sym, ◌∙◌, ap, subst, arith, true≢false}
use Rattle.std.proofs.lemmas.Bool.{cases_eq}
use Rattle.std.proofs.lemmas.Bool.Decides.{nat_tests}
use Rattle.cs_disk.specs.Disk.{Image, latest}
use Rattle.cs_frame.specs.declared.locators.Locator.{Locator}
use Rattle.cs_frame.specs.Geometries.{Dimensions, IsGeometry}
use Rattle.cs_twin.specs.declared.pairs.Pair.{Pair}
use Rattle.cs_twin.specs.Pairs.{Versions, half, version_at}
use Rattle.law_machine.specs.Geometry.{twins_in}
use Rattle.cs_mount.specs.MadeSections.{all_made, halves_lost, made_section, made_writes, section_pair, serves, shown_half}
use Rattle.cs_mount.specs.Makings.{pair_of_section}
use Rattle.cs_mount.specs.StorePairs.{store_version}
use Rattle.cs_mount.proofs.Halves.{latest_append, one_place}

-- places of pairs
pub place_below : (j sections : ℕ) → j < sections → pair_of_section j ≤ sections
place_below j sections lt = grind (arith, nat_tests)

pub place_one : (i j : ℕ) → pair_of_section i ≡ pair_of_section j → i ≡ j
place_one i j same = grind (arith, nat_tests)

pub place_not_root : (j : ℕ) → pair_of_section j ≢ 1
place_not_root j is = grind (arith, nat_tests)

-- ---- the writes to one pair

-- a write of these bytes to each of the halves that aren't whole
lost_here : (p q own twin r : ℕ) (bytes was : List ℕ) → latest (map (λ (z : ℕ). (z, bytes)) ((if own == 0 then p ∷ [] else []) ++ (if twin == 0 then q ∷ [] else []))) r was
    ≡ (if (q == r) && (twin == 0) then bytes else (if (p == r) && (own == 0) then bytes else was))
lost_here p q own twin r bytes was = by (own == 0) (twin == 0) (p == r) (q == r)
  where
    by : (a b c e : Bool) → latest (map (λ (z : ℕ). (z, bytes)) ((if a then p ∷ [] else []) ++ (if b then q ∷ [] else []))) r was
        ≡ (if (q == r) && b then bytes else (if (p == r) && a then bytes else was))
    by a b c e = grind (arith, nat_tests)

-- so of one half, by which it is
half_here : (p q own twin : ℕ) (b : Bool) (bytes was : List ℕ) → p ≢ q
    → latest (map (λ (z : ℕ). (z, bytes)) ((if own == 0 then p ∷ [] else []) ++ (if twin == 0 then q ∷ [] else []))) (if b then q else p) was
    ≡ (if (if b then twin else own) == 0 then bytes else was)
half_here p q own twin b bytes was apart = lost_here p q own twin (if b then q else p) bytes was ∙ by b
  where
    by : (b : Bool) → (if (q == (if b then q else p)) && (twin == 0) then bytes else (if (p == (if b then q else p)) && (own == 0) then bytes else was)) ≡ (if (if b then twin else own) == 0 then bytes else was)
    by true = grind (arith, nat_tests)
    by false = grind (arith, nat_tests)

half_other : (p q own twin r : ℕ) (bytes was : List ℕ) → p ≢ r → q ≢ r
    → latest (map (λ (z : ℕ). (z, bytes)) ((if own == 0 then p ∷ [] else []) ++ (if twin == 0 then q ∷ [] else []))) r was ≡ was
half_other p q own twin r bytes was one two = lost_here p q own twin r bytes was ∙ by
  where
    by : (if (q == r) && (twin == 0) then bytes else (if (p == r) && (own == 0) then bytes else was)) ≡ was
    by = grind (arith, nat_tests)

module _ (d : Dimensions) (g : IsGeometry d.format d.extents d.pages d.sections) (twins : twins_in d.format ≡ true) (image : Image) (root : ℕ) (named : List Locator) where
  abbrev V : Versions
  V = store_version (Some d)

  abbrev pub x : ℕ → Pair
  x j = section_pair d j

  abbrev pub own : ℕ → ℕ
  own j = version_at (store_version (Some d)) image (section_pair d j) false

  abbrev pub twin : ℕ → ℕ
  twin j = version_at (store_version (Some d)) image (section_pair d j) true

  -- the section has what is named
  abbrev pub does : ℕ → Bool
  does j = serves d root named j (max (version_at (store_version (Some d)) image (section_pair d j) false) (version_at (store_version (Some d)) image (section_pair d j) true)) (shown_half d image (section_pair d j))

  -- the version in which it is made, and the page
  abbrev pub newer : ℕ → ℕ
  newer j = 1 + max (version_at (store_version (Some d)) image (section_pair d j) false) (version_at (store_version (Some d)) image (section_pair d j) true)

  abbrev pub bytes_made : ℕ → List ℕ
  bytes_made j = made_section d named (1 + max (version_at (store_version (Some d)) image (section_pair d j) false) (version_at (store_version (Some d)) image (section_pair d j) true)) j

  -- what a half holds then
  abbrev pub holds : (j : ℕ) → (b : Bool) → List ℕ → List ℕ
  holds j b was = if not (does j) && ((if b then twin j else own j) == 0) then bytes_made j else was

  apart : (j : ℕ) → j < d.sections → (x j).page ≢ (x j).twin
  apart j lt same = let clash : false ≡ true = (one_place d g twins (pair_of_section j) (pair_of_section j) false true (place_below j d.sections lt) (place_below j d.sections lt) same).1 in true≢false (sym clash)

  section_here : (j : ℕ) (b : Bool) (was : List ℕ) → j < d.sections → latest (made_writes d image root named j) (half (x j) b) was ≡ holds j b was
  section_here j b was lt = by (does j) (half_here (x j).page (x j).twin (own j) (twin j) b (bytes_made j) was (apart j lt))
    where
      by : (t : Bool) → latest (map (λ (z : ℕ). (z, bytes_made j)) (halves_lost (x j) (own j) (twin j))) (half (x j) b) was ≡ (if (if b then twin j else own j) == 0 then bytes_made j else was)
          → latest (if t then [] else map (λ (z : ℕ). (z, bytes_made j)) (halves_lost (x j) (own j) (twin j))) (half (x j) b) was
          ≡ (if not t && ((if b then twin j else own j) == 0) then bytes_made j else was)
      by true is = refl
      by false is = is

  section_other : (j p : ℕ) (was : List ℕ) → ((b : Bool) → half (x j) b ≢ p) → latest (made_writes d image root named j) p was ≡ was
  section_other j p was none = by (does j) (half_other (x j).page (x j).twin (own j) (twin j) p (bytes_made j) was (none false) (none true))
    where
      by : (t : Bool) → latest (map (λ (z : ℕ). (z, bytes_made j)) (halves_lost (x j) (own j) (twin j))) p was ≡ was
          → latest (if t then [] else map (λ (z : ℕ). (z, bytes_made j)) (halves_lost (x j) (own j) (twin j))) p was ≡ was
      by true is = refl
      by false is = is

  -- sections lie apart
  other_section : (i j : ℕ) (b c : Bool) → i < d.sections → j < d.sections → i ≢ j → half (x i) b ≢ half (x j) c
  other_section i j b c lt_i lt_j other same = other (place_one i j (one_place d g twins (pair_of_section i) (pair_of_section j) b c (place_below i d.sections lt_i) (place_below j d.sections lt_j) same).0)

  pub made_other : (n p : ℕ) (was : List ℕ) → ((j : ℕ) (b : Bool) → j < n → half (x j) b ≢ p) → latest (all_made d image root named n) p was ≡ was
  made_other zero p was none = refl
  made_other (suc n) p was none =
      latest_append (all_made d image root named n) (made_writes d image root named n) p was
      ∙ section_other n p (latest (all_made d image root named n) p was) (λ b. none n b (omega arith))
      ∙ made_other n p was (λ j b lt. none j b (omega (arith, lt)))

  pub made_here : (n j : ℕ) (b : Bool) (was : List ℕ) → n ≤ d.sections → j < n → latest (all_made d image root named n) (half (x j) b) was ≡ holds j b was
  made_here zero j b was le lt = absurd (omega (arith, lt))
  made_here (suc n) j b was le lt =
      latest_append (all_made d image root named n) (made_writes d image root named n) (half (x j) b) was
      ∙ ⊎_elim
      (λ (here : n ≡ j). subst (λ (k : ℕ). latest (made_writes d image root named k) (half (x j) b) (latest (all_made d image root named n) (half (x j) b) was) ≡ holds j b was) (sym here)
      (section_here j b (latest (all_made d image root named n) (half (x j) b) was) (omega (arith, lt, le))
      ∙ ap (holds j b) (made_other n (half (x j) b) was (λ i c less. other_section i j c b (omega (arith, less, le)) (omega (arith, lt, le)) (omega (arith, less, here))))))
      (λ (other : n ≢ j).
      section_other n (half (x j) b) (latest (all_made d image root named n) (half (x j) b) was) (λ c. other_section n j c b (omega (arith, le)) (omega (arith, lt, le)) other)
      ∙ made_here n j b was (omega (arith, le)) (omega (arith, lt, other)))
      (cases_eq n j)
