-- The pages of a new store spell what they should.
use Rattle.std.proofs.Common.{◌≡◌, ◌≢◌, ◌⊎◌, Option, Some, inl, inr, if◌then◌else◌, ◌==◌, ℕ, zero, suc, ◌+◌, ◌-◌, ◌*◌, ◌^◌, ◌<◌, ◌≤◌, Bool, List, [], ◌∷◌, replicate, nat_lt, refl, sym, ◌∙◌, ap, subst, arith}
use Rattle.std.proofs.lemmas.Bool.{cases_eq, ne_eqb}
use Rattle.std.proofs.lemmas.Bool.Decides.{nat_tests}
use Rattle.std.proofs.lemmas.List.{length-replicate}
use Rattle.std.specs.List.{AllByRecursion}
use Rattle.cs_disk.specs.Disk.{Write}
use Rattle.cs_frame.specs.declared.locators.Locator.{Locator}
use Rattle.cs_frame.specs.FormatNumbers.{number_in}
use Rattle.cs_frame.specs.Geometries.{Dimensions, FitsFormat, IsGeometry, section_length}
use Rattle.cs_frame.specs.Pointers.{FitsExtent}
use Rattle.cs_frame.specs.Roots.{FitsIdentity, SpellsRoot, identity_in, root_number, spelled_root}
use Rattle.law_machine.specs.Format.{Format, Four, Two}
use Rattle.cs_frame.specs.Superblocks.{FitsRecord, SpellsSuperblock, record_in, spelled_superblock}
use Rattle.cs_frame.proofs.RootLaws.{fewest_runs}
use Rattle.cs_frame.proofs.SuperblockLaws.{recorded_below_root, recorded_fits_in}
use Rattle.cs_twin.specs.declared.pairs.Pair.{Pair}
use Rattle.cs_mount.specs.Makings.{both_halves, new_page, new_root, new_section, pair_of_section, section_of_pair}
use Rattle.cs_mount.specs.StorePairs.{root_version, section_at, section_version, store_pair, store_version}
use Rattle.cs_mount.proofs.Spelling.{root_read, section_read}

-- that no root was persistent can be spelled
pub none_fits : (format : Format) → FitsRecord format 0
none_fits format =
    let none : record_in format 0 ≡ 0 = (let le : record_in format 0 ≤ 0 = recorded_below_root format 0 in omega (arith, le)) in
    let small : 0 < 2 ^ 64 = omega arith in
    subst (λ (n : ℕ). FitsRecord format n) none (recorded_fits_in format 0 small)

-- the root has the identity that its format has, of the same number
number_of_identity : (format : Format) → root_number (identity_in format) ≡ number_in format
number_of_identity Two = refl
number_of_identity (Four store device) = refl

identity_of_format : (format : Format) → FitsFormat format → FitsIdentity (identity_in format)
identity_of_format Two fits = tt
identity_of_format (Four store device) fits = fits.0

rows_fit : (pages n : ℕ) → AllByRecursion (FitsExtent pages) (replicate n (0, 0))
rows_fit pages zero = tt
rows_fit pages (suc n) = (record { pointer = omega arith; generation = omega arith }, rows_fit pages n)

-- and each of its rows
pub rows_low : (pages n : ℕ) → AllByRecursion (λ (row : ℕ × ℕ). row.0 ≤ pages) (replicate n (0, 0))
rows_low pages zero = tt
rows_low pages (suc n) = (omega arith, rows_low pages n)

-- where a pair's page lies, and which section it is of
section_of_place : (F k : ℕ) → k ≢ 1 → (if (if nat_lt k 2 then k else F + k) == 0 then 0 else (if nat_lt k 2 then k else F + k) - (1 + F)) ≡ (if k == 0 then 0 else k - 1)
section_of_place F k other = grind (arith, nat_tests)

pair_not_root : (F k : ℕ) → 2 ≤ F → k ≢ 1 → (if nat_lt k 2 then k else F + k) ≢ 1
pair_not_root F k some other = grind (arith, nat_tests)

section_there : (k sections : ℕ) → 1 ≤ sections → k ≤ sections → k ≢ 1 → (if k == 0 then 0 else k - 1) < sections
section_there k sections some le other = grind (arith, nat_tests)

module _ (d : Dimensions) (g : IsGeometry d.format d.extents d.pages d.sections) where
  pub spells_section : (j : ℕ) → j < d.sections → SpellsSuperblock (new_section d j) d.format 1 0 d.extents d.pages d.sections j (replicate (section_length d.extents d.sections j) (0, 0))
  unfolding new_section
  spells_section j lt = record {
    fits = record {
      first_version = omega arith;
      last_version = omega arith;
      recorded_fits = none_fits d.format;
      geometry = g;
      one_of_them = lt;
      count = length-replicate {A = ℕ × ℕ} (section_length d.extents d.sections j) (0, 0);
      each = rows_fit d.pages (section_length d.extents d.sections j);
    };
    spelled = refl;
  }

  pub spells_root : SpellsRoot (new_root d) (identity_in d.format) 1 0 []
  unfolding new_root
  spells_root = record {
    fits = record {
      identity = identity_of_format d.format g.fits_format;
      first_version = omega arith;
      last_version = omega arith;
      last_command = omega arith;
      count = let many = fewest_runs (root_number (identity_in d.format)) in omega (arith, many);
      each = tt;
    };
    spelled = refl;
  }

  -- each is of version 1
  section_first : (j : ℕ) → j < d.sections → section_version d j (new_section d j) ≡ 1
  section_first j lt =
      sym (section_read (new_section d j) d d.format 1 0 d.extents d.pages d.sections j j (replicate (section_length d.extents d.sections j) (0, 0)) (spells_section j lt) refl (refl, refl, refl, refl, refl))

  -- page 0 is that of the first
  pub first_section : section_version d 0 (new_section d 0) ≡ 1
  first_section = section_first 0 g.fewest_sections

  pub new_first : 2 ≤ d.extents * d.pages → (k : ℕ) → k ≤ d.sections → store_version (Some d) (store_pair d k).page (new_page d k) ≡ 1
  new_first some k le = by_place (cases_eq k 1)
    where
      p : ℕ
      p = (store_pair d k).page

      by_place : (k ≡ 1) ⊎ (k ≢ 1) → store_version (Some d) (store_pair d k).page (new_page d k) ≡ 1
      by_place (inl root) =
          subst (λ n. store_version (Some d) (store_pair d n).page (new_page d n) ≡ 1) (sym root) (sym (root_read (new_root d) d.format (identity_in d.format) 1 0 [] spells_root (number_of_identity d.format) refl))
      by_place (inr other) =
          let bytes = new_section d (section_of_pair k) in
          ap (store_version (Some d) (store_pair d k).page) (ap (λ (b : Bool). if b then new_root d else bytes) (ne_eqb k 1 other))
          ∙ ap (λ (b : Bool). if b then root_version d.format bytes else section_version d (section_at d (store_pair d k).page) bytes) (ne_eqb (store_pair d k).page 1 (pair_not_root (d.extents * d.pages) k some other))
          ∙ ap (λ n. section_version d n bytes) (section_of_place (d.extents * d.pages) k other)
          ∙ section_first (section_of_pair k) (section_there k d.sections g.fewest_sections le other)

-- ---- bytes that were encoded

pub is_new_section : (d : Dimensions) (j : ℕ) (bytes : List ℕ) (rows : List (ℕ × ℕ)) → rows ≡ replicate (section_length d.extents d.sections j) (0, 0)
    → bytes ≡ spelled_superblock d.format 1 0 d.extents d.pages d.sections j rows → bytes ≡ new_section d j
unfolding new_section
is_new_section d j bytes rows empty is = is ∙ ap (λ (l : List (ℕ × ℕ)). spelled_superblock d.format 1 0 d.extents d.pages d.sections j l) empty

pub is_new_root : (d : Dimensions) (store : Option (List ℕ)) (bytes : List ℕ) (runs : List Locator) → store ≡ identity_in d.format → runs ≡ [] → bytes ≡ spelled_root store 1 0 runs → bytes ≡ new_root d
unfolding new_root
is_new_root d store bytes runs same none is = is ∙ ap (λ (i : Option (List ℕ)). spelled_root i 1 0 runs) same ∙ ap (λ (l : List Locator). spelled_root (identity_in d.format) 1 0 l) none

page_of_section : (d : Dimensions) (j : ℕ) → new_page d (pair_of_section j) ≡ new_section d j
page_of_section d j = section_not_root j (new_root d) (new_section d (section_of_pair (pair_of_section j))) ∙ ap (new_section d) (section_of j)
  where
    section_not_root : {A : Type 0} (j : ℕ) (x y : A) → (if (if j == 0 then 0 else j + 1) == 1 then x else y) ≡ y
    section_not_root j x y = grind (arith, nat_tests)

    section_of : (j : ℕ) → (if (if j == 0 then 0 else j + 1) == 0 then 0 else (if j == 0 then 0 else j + 1) - 1) ≡ j
    section_of j = grind (arith, nat_tests)

-- the writes to two pages, by what they are
pub two_are : (p q a b : ℕ) (x y : List ℕ) → p ≡ a → q ≡ b → x ≡ y → ◌≡◌ {A = List Write} ((p, x) ∷ (q, x) ∷ []) ((a, y) ∷ (b, y) ∷ [])
two_are p q a b x y first second bytes = cc

pub section_writes : (d : Dimensions) (j k : ℕ) (it : Pair) (bytes : List ℕ) (rows : List (ℕ × ℕ)) → k ≡ pair_of_section j → it ≡ store_pair d k → rows ≡ replicate (section_length d.extents d.sections j) (0, 0)
    → bytes ≡ spelled_superblock d.format 1 0 d.extents d.pages d.sections j rows → ◌≡◌ {A = List Write} ((it.page, bytes) ∷ (it.twin, bytes) ∷ []) (both_halves d (pair_of_section j))
section_writes d j k it bytes rows place pair empty is =
    let there = pair ∙ ap (store_pair d) place in
    let its = is_new_section d j bytes rows empty is ∙ sym (page_of_section d j) in
    two_are it.page it.twin (store_pair d (pair_of_section j)).page (store_pair d (pair_of_section j)).twin bytes (new_page d (pair_of_section j)) (ap (λ (y : Pair). y.page) there) (ap (λ (y : Pair). y.twin) there) its

pub root_writes : (d : Dimensions) (it : Pair) (store : Option (List ℕ)) (bytes : List ℕ) (runs : List Locator) → it ≡ store_pair d 1 → store ≡ identity_in d.format → runs ≡ [] → bytes ≡ spelled_root store 1 0 runs
    → ◌≡◌ {A = List Write} ((it.page, bytes) ∷ (it.twin, bytes) ∷ []) (both_halves d 1)
root_writes d it store bytes runs pair same none is =
    two_are it.page it.twin (store_pair d 1).page (store_pair d 1).twin bytes (new_page d 1) (ap (λ (y : Pair). y.page) pair) (ap (λ (y : Pair). y.twin) pair) (is_new_root d store bytes runs same none is)

-- each of several pairs of zeros
pub pair_is : (p : ℕ × ℕ) → (p.0 ≡ 0) × (p.1 ≡ 0) → p ≡ (0, 0)
pair_is (a, b) h = ap (λ (n : ℕ). (n, b)) h.0 ∙ ap (λ (n : ℕ). (0, n)) h.1
