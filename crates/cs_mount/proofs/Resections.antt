-- Sections that are made in place of others: what an image recovers is recovered of the one that has them.
use Rattle.std.proofs.Common.{◌≡◌, inl, inr, ⊎_elim, ℕ, zero, suc, ◌+◌, ◌-◌, ◌<◌, ◌≤◌, ◌==◌, Bool, true, false, List, [], ◌∷◌, length, map, take, drop, if◌then◌else◌, le_refl, true≢false, refl, sym, ap, ◌∙◌, subst, arith}
use Rattle.std.specs.Prelude.{slice_index_or}
use Rattle.std.specs.List.{range_with_len}
use Rattle.std.proofs.lemmas.Bool.{cases_eq}
use Rattle.std.proofs.lemmas.List.FromFn.{get_or-map-range_with_len, length-map-range_with_len, take-map-range_with_len}
use Rattle.cs_extent.proofs.Sections.{end_inside}
use Rattle.cs_frame.specs.declared.locators.Locator.{Locator}
use Rattle.cs_frame.specs.Formats.{extents_of as listed_extents, formats_of, is_first_format}
use Rattle.cs_frame.specs.Geometries.{Dimensions, IsGeometry, section_length, section_start}
use Rattle.cs_frame.specs.Superblocks.{spelled_superblock}
use Rattle.cs_reader.proofs.Superblocks.{section_listed}
use Rattle.cs_twin.proofs.Roles.{if_other, if_same}
use Rattle.cs_frame.specs.FirstFormat.{spelled_first_format}
use Rattle.law_machine.specs.Device.{Page, Shape}
use Rattle.law_machine.specs.Element.{Map}
use Rattle.law_machine.specs.Format.{Format, Four, Two}
use Rattle.law_machine.specs.Formats.{Formats}
use Rattle.law_machine.specs.Recovery.{Recovers}
use Rattle.law_machine.specs.Geometry.{twins_in}
use Rattle.law_machine.specs.Lists.{◌∈◌}
use Rattle.cs_mount.specs.MadeSections.{made_row, made_rows, made_section}
use Rattle.cs_mount.specs.StorePairs.{store_shape}

-- ---- one row

-- what is named of an extent agrees
abbrev pub Agree : List Locator → Type 0
Agree named = (k l : Locator) → k ∈ named → l ∈ named → k.extent ≡ l.extent → k.generation ≡ l.generation

-- the row of an extent on which something is named
pub row_there : (pages : ℕ) (named : List Locator) (l : Locator) → l ∈ named → ((k : Locator) → k ∈ named → k.extent ≡ l.extent → k.generation ≡ l.generation)
    → made_row pages named l.extent ≡ (pages, l.generation)
row_there pages [] l none agree = absurd none
row_there pages (k ∷ named) l among agree = elim (cases_eq k.extent l.extent) [
  | inl here ↦ ap (λ (e : ℕ). if k.extent == e then (pages, k.generation) else made_row pages named e) (sym here) ∙ if_same k.extent (pages, k.generation) (made_row pages named k.extent)
      ∙ ap (λ (g : ℕ). (pages, g)) (agree k (inl refl) here)
  | inr other ↦ if_other k.extent l.extent (pages, k.generation) (made_row pages named l.extent) other
      ∙ row_there pages named l (⊎_elim (λ (is : l ≡ k). absurd (other (ap (λ (z : Locator). z.extent) (sym is)))) (λ (later : l ∈ named). later) among) (λ j has. agree j (inr has))
]

-- and of any
pub row_fits : (pages greatest : ℕ) (named : List Locator) → ((l : Locator) → l ∈ named → l.generation ≤ greatest) → (e : ℕ)
    → ((made_row pages named e).0 ≤ pages) × ((made_row pages named e).1 ≤ greatest)
row_fits pages greatest [] low e = (omega arith, omega arith)
row_fits pages greatest (l ∷ named) low e = pick (l.extent == e) (row_fits pages greatest named (λ k has. low k (inr has)) e)
  where
    pick : (b : Bool) → ((made_row pages named e).0 ≤ pages) × ((made_row pages named e).1 ≤ greatest)
        → ((if b then (pages, l.generation) else made_row pages named e).0 ≤ pages) × ((if b then (pages, l.generation) else made_row pages named e).1 ≤ greatest)
    pick true rest = (le_refl _, low l (inl refl))
    pick false rest = rest

-- ---- the rows of a section

-- what is listed of a section looks at its extents alone
pub listed_same : (speaks p g q h : ℕ → ℕ) (j first count : ℕ)
    → ((e : ℕ) → e < first + count → speaks e ≡ j → (p e ≡ q e) × (g e ≡ h e)) → listed_extents speaks p g j first count ≡ listed_extents speaks q h j first count
listed_same speaks p g q h j first zero same = refl
listed_same speaks p g q h j first (suc count) same =
    one (listed_extents speaks p g j (suc first) count) (listed_extents speaks q h j (suc first) count) (listed_same speaks p g q h j (suc first) count (λ e lt its. same e (omega (arith, lt)) its))
  where
    one : (xs ys : List (ℕ × ℕ)) → xs ≡ ys → (if speaks first == j then (p first, g first) ∷ xs else xs) ≡ (if speaks first == j then (q first, h first) ∷ ys else ys)
    one xs ys rest = elim (cases_eq (speaks first) j) [
      | inl its ↦ (let both = same first (omega arith) its in
          ap (λ (n : ℕ). if speaks first == j then (n, g first) ∷ xs else xs) both.0
          ∙ ap (λ (n : ℕ). if speaks first == j then (q first, n) ∷ xs else xs) both.1
          ∙ ap (λ (rows : List (ℕ × ℕ)). if speaks first == j then (q first, h first) ∷ rows else rows) rest)
      | inr other ↦ if_other (speaks first) j ((p first, g first) ∷ xs) xs other ∙ rest ∙ sym (if_other (speaks first) j ((q first, h first) ∷ ys) ys other)
    ]

-- a part of a list that is made by numbers
drop_one : {X : Type 0} (f : ℕ → X) (a n k : ℕ) → drop (suc k) (map f (range_with_len a (suc n))) ≡ drop k (map f (range_with_len (a + 1) n))
drop_one f a n k = refl

drop_made : {X : Type 0} (f : ℕ → X) (a n k : ℕ) → drop k (map f (range_with_len a (k + n))) ≡ map f (range_with_len (a + k) n)
drop_made f a n zero = ap (λ (b : ℕ). map f (range_with_len a b)) (let same : 0 + n ≡ n = omega arith in same) ∙ ap (λ (b : ℕ). map f (range_with_len b n)) (let same : a ≡ a + 0 = omega arith in same)
drop_made f a n (suc k) = ap (λ (b : ℕ). drop (suc k) (map f (range_with_len a b))) (let same : suc k + n ≡ suc (k + n) = omega arith in same) ∙ drop_one f a (k + n) k ∙ drop_made f (a + 1) n k ∙ ap (λ (b : ℕ). map f (range_with_len b n)) (let same : a + 1 + k ≡ a + suc k = omega arith in same)

module _ (d : Dimensions) (geometry : IsGeometry d.format d.extents d.pages d.sections) (named : List Locator) where
  -- those of all extents
  abbrev rows_all : List (ℕ × ℕ)
  rows_all = map (made_row d.pages named) (range_with_len 0 d.extents)

  pub rows_length : length rows_all ≡ d.extents
  rows_length = length-map-range_with_len (made_row d.pages named) 0 d.extents

  pub rows_at : (e : ℕ) → e < d.extents → slice_index_or rows_all e (0, 0) ≡ made_row d.pages named e
  rows_at e lt = get_or-map-range_with_len (made_row d.pages named) 0 d.extents e e (0, 0) lt (omega arith)

  -- a section's part of them
  pub rows_part : (j : ℕ) → j < d.sections → take (section_length d.extents d.sections j) (drop (section_start d.extents d.sections j) rows_all) ≡ made_rows d named j
  rows_part j lt =
      let start = section_start d.extents d.sections j in
      let count = section_length d.extents d.sections j in
      let inside : start + count ≤ d.extents = end_inside d.format d.extents d.pages d.sections j geometry lt in
      let sum : d.extents ≡ start + (d.extents - start) = omega (arith, inside) in
      ap (λ (n : ℕ). take count (drop start (map (made_row d.pages named) (range_with_len 0 n)))) sum
      ∙ ap (take count) (drop_made (made_row d.pages named) 0 (d.extents - start) start)
      ∙ take-map-range_with_len (made_row d.pages named) (0 + start) (d.extents - start) count (omega (arith, inside))
      ∙ ap (λ (b : ℕ). map (made_row d.pages named) (range_with_len b count)) (let same : 0 + start ≡ start = omega arith in same)

  pub made_listed : (j : ℕ) → j < d.sections
      → listed_extents (store_shape d).section (λ e. (made_row d.pages named e).0) (λ e. (made_row d.pages named e).1) j 0 d.extents ≡ made_rows d named j
  made_listed j lt = section_listed d.format d.extents d.pages d.sections geometry rows_all rows_length (λ e. (made_row d.pages named e).0) (λ e. (made_row d.pages named e).1)
      (λ k inside. sym (rows_at k inside)) j ∙ rows_part j lt

-- ---- an image with sections that are made

-- a format with twins is no first one
not_first : (format : Format) (number sections : ℕ) → twins_in format ≡ true → is_first_format format number sections ≡ false
not_first Two number sections twins = absurd (true≢false (sym twins))
not_first (Four store device) number sections twins = refl

chosen : {A : Type 0} (b c : Bool) (x y : A) → b ≡ c → (if b then x else y) ≡ (if c then x else y)
chosen b c x y is = ap (λ (t : Bool). if t then x else y) is

module _ (d : Dimensions) (geometry : IsGeometry d.format d.extents d.pages d.sections) (twins : twins_in d.format ≡ true) (named : List Locator)
    (view other : ℕ → Page) (n : ℕ) (m : Map) (found : Recovers (store_shape d) (formats_of (store_shape d)) view n m) (made : ℕ → Bool) (newer : ℕ → ℕ) where
  abbrev S : Shape
  S = store_shape d

  abbrev F : Formats
  F = formats_of S

  -- pointer and generation of each extent now
  abbrev pub q : ℕ → ℕ
  q e = if made (S.section e) then (made_row d.pages named e).0 else found.pointers e

  abbrev pub h : ℕ → ℕ
  h e = if made (S.section e) then (made_row d.pages named e).1 else found.generations e

  -- all that lives is named, and what is named is in its extent's generation
  module _ (its : (l : Locator) → l ∈ named → found.generations l.extent ≡ l.generation) where
    agree : (k l : Locator) → k ∈ named → l ∈ named → k.extent ≡ l.extent → k.generation ≡ l.generation
    agree k l one two same = sym (its k one) ∙ ap found.generations same ∙ its l two

    low : (l : Locator) → l ∈ named → l.generation ≤ 4294967295
    low l has = subst (λ (v : ℕ). v ≤ 4294967295) (its l has) (found.extents_fit l.extent).1

    pub fits : (e : ℕ) → (q e ≤ d.pages) × (h e ≤ 4294967295)
    fits e = pick (made (S.section e))
      where
        pick : (b : Bool) → ((if b then (made_row d.pages named e).0 else found.pointers e) ≤ d.pages) × ((if b then (made_row d.pages named e).1 else found.generations e) ≤ 4294967295)
        pick true = row_fits d.pages 4294967295 named low e
        pick false = found.extents_fit e

    pub keeps : (l : Locator) → l ∈ named → (h l.extent ≡ found.generations l.extent) × (found.pointers l.extent ≤ q l.extent)
    keeps l has = pick (made (S.section l.extent))
      where
        row : made_row d.pages named l.extent ≡ (d.pages, l.generation)
        row = row_there d.pages named l has (λ k one same. agree k l one has same)

        pick : (b : Bool) → ((if b then (made_row d.pages named l.extent).1 else found.generations l.extent) ≡ found.generations l.extent)
            × (found.pointers l.extent ≤ (if b then (made_row d.pages named l.extent).0 else found.pointers l.extent))
        pick true = (
          ap (λ (r : ℕ × ℕ). r.1) row ∙ sym (its l has),
          subst (λ (v : ℕ). found.pointers l.extent ≤ v) (sym (ap (λ (r : ℕ × ℕ). r.0) row)) (found.extents_fit l.extent).0,
        )
        pick false = (refl, le_refl _)

  -- the page of a section that is made
  pub made_there : (j : ℕ) → j < d.sections → made j ≡ true → other (S.section_page j) ≡ made_section d named (newer j) j
      → other (S.section_page j) ≡ F.superblock 4 j (newer j) 0 q h
  unfolding made_section
  made_there j lt on is = is
      ∙ ap (spelled_superblock d.format (newer j) 0 d.extents d.pages d.sections j) (sym (made_listed d geometry named j lt)
      ∙ listed_same S.section (λ e. (made_row d.pages named e).0) (λ e. (made_row d.pages named e).1) q h j 0 d.extents (λ e inside its. same e its))
      ∙ sym (chosen (is_first_format d.format 4 d.sections) false _ _ (not_first d.format 4 d.sections twins))
    where
      same : (e : ℕ) → S.section e ≡ j → ((made_row d.pages named e).0 ≡ q e) × ((made_row d.pages named e).1 ≡ h e)
      same e its = let test : made (S.section e) ≡ true = ap made its ∙ on in (
        ap (λ (b : Bool). if b then (made_row d.pages named e).0 else found.pointers e) (sym test),
        ap (λ (b : Bool). if b then (made_row d.pages named e).1 else found.generations e) (sym test),
      )

  -- and of another
  pub rest_there : (j : ℕ) → j < d.sections → made j ≡ false → other (S.section_page j) ≡ view (S.section_page j)
      → other (S.section_page j) ≡ F.superblock (found.formats j) j (found.versions j) (found.recorded j) q h
  rest_there j lt off is = is ∙ found.superblock j lt
      ∙ ap (λ (rows : List (ℕ × ℕ)). if is_first_format d.format (found.formats j) d.sections then spelled_first_format (found.versions j) d.pages (listed_extents S.section found.pointers found.generations j 0 d.extents)
      else spelled_superblock d.format (found.versions j) (found.recorded j) d.extents d.pages d.sections j rows) rows
      ∙ ap (λ (rows : List (ℕ × ℕ)). if is_first_format d.format (found.formats j) d.sections then spelled_first_format (found.versions j) d.pages rows
      else spelled_superblock d.format (found.versions j) (found.recorded j) d.extents d.pages d.sections j (listed_extents S.section q h j 0 d.extents)) rows
    where
      rows : listed_extents S.section found.pointers found.generations j 0 d.extents ≡ listed_extents S.section q h j 0 d.extents
      rows = listed_same S.section found.pointers found.generations q h j 0 d.extents (λ e inside its. let test : made (S.section e) ≡ false = ap made its ∙ off in (
        ap (λ (b : Bool). if b then (made_row d.pages named e).0 else found.pointers e) (sym test),
        ap (λ (b : Bool). if b then (made_row d.pages named e).1 else found.generations e) (sym test),
      ))
