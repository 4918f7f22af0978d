-- The pages of the superblock and of the root that a core writes have the versions that they were staged with.
use Rattle.std.proofs.Common.{◌≡◌, ℕ, zero, suc, ◌+◌, ◌<◌, ◌≤◌, Bool, true, false, List, [], ◌∷◌, ◌++◌, length, map, take, drop, refl, sym, ap, ◌∙◌, subst, arith}
use Rattle.std.specs.Prelude.{reverse, slice_index_or}
use Rattle.std.specs.List.{AllByRecursion}
use Rattle.std.proofs.lemmas.Bool.{and_parts}
use Rattle.std.proofs.lemmas.Grind.{reverse_onto}
use Rattle.std.proofs.lemmas.List.{length-drop, length-map, length-reverse, length-take}
use Rattle.cs_extent.proofs.Sections.{all_in_part, part_inside}
use Rattle.cs_frame.specs.Formats.{as_locator, extents_of as listed_extents, fits_root, formats_of}
use Rattle.cs_frame.specs.FormatNumbers.{greatest_runs, is_marked}
use Rattle.cs_frame.specs.Geometries.{Dimensions, IsGeometry, section_length, section_start}
use Rattle.cs_frame.specs.Locators.{FitsLocator}
use Rattle.cs_frame.specs.Pointers.{FitsExtent as FitsPair}
use Rattle.cs_frame.specs.Roots.{SpellsRoot, identity_in, root_number}
use Rattle.cs_frame.specs.Superblocks.{FitsRecord, FitsSuperblock, SpellsSuperblock}
use Rattle.cs_frame.proofs.NamedRuns.{all_fit}
use Rattle.cs_frame.proofs.RootLaws as roots
use Rattle.cs_reader.proofs.Readable.{rows_from}
use Rattle.cs_reader.proofs.Superblocks.{section_listed}
use Rattle.law_machine.specs.Device.{Shape}
use Rattle.law_machine.specs.Disk.{page_write}
use Rattle.law_machine.specs.Element.{A_root, A_superblock, Root, Run, Superblock}
use Rattle.law_machine.specs.Format.{Format, Four, Two}
use Rattle.law_machine.specs.Formats.{Formats, places}
use Rattle.law_machine.specs.Geometry.{marks_in, most_runs_in, twins_in}
use Rattle.law_machine.specs.Index.{InBounds, entries_of}
use Rattle.law_machine.specs.Safe.{FitsExtent}
use Rattle.cs_mount.specs.StorePairs.{root_version, section_version, store_shape}
use Rattle.cs_mount.proofs.Respelling.{four_superblock}
use Rattle.cs_mount.proofs.SealedImages.{length-rows}
use Rattle.cs_mount.proofs.Spelling.{root_read, section_read}

-- ---- lists

all_append : {X : Type 0} (P : X → Type 0) (xs ys : List X) → AllByRecursion P xs → AllByRecursion P ys → AllByRecursion P (xs ++ ys)
all_append P [] ys all more = more
all_append P (x ∷ xs) ys all more = (all.0, all_append P xs ys all.1 more)

all_reverse : {X : Type 0} (P : X → Type 0) (xs : List X) → AllByRecursion P xs → AllByRecursion P (reverse xs)
all_reverse P [] all = tt
all_reverse P (x ∷ xs) all = subst (AllByRecursion P) (sym (reverse_onto xs x [])) (all_append P (reverse xs) (x ∷ []) (all_reverse P xs all.1) (all.0, tt))

map-append : {X Y : Type 0} (f : X → Y) (xs ys : List X) → map f (xs ++ ys) ≡ map f xs ++ map f ys
map-append f [] ys = refl
map-append f (x ∷ xs) ys = ap (λ l. f x ∷ l) (map-append f xs ys)

map-reverse : {X Y : Type 0} (f : X → Y) (xs : List X) → map f (reverse xs) ≡ reverse (map f xs)
map-reverse f [] = refl
map-reverse f (x ∷ xs) = ap (map f) (reverse_onto xs x []) ∙ map-append f (reverse xs) (x ∷ []) ∙ ap (λ l. l ++ f x ∷ []) (map-reverse f xs) ∙ sym (reverse_onto (map f xs) (f x) [])

length-places : (runs : List Run) → length (places runs) ≡ length runs
length-places [] = refl
length-places (run ∷ runs) = ap suc (length-places runs)

-- ---- pointer and generation of each extent

module _ (p g : ℕ → ℕ) where
  row_in : (first count k : ℕ) → k < count → slice_index_or (rows_from p g first count) k (0, 0) ≡ (p (first + k), g (first + k))
  row_in first zero k lt = absurd (omega (arith, lt))
  row_in first (suc count) zero lt = ap (λ (n : ℕ). (p n, g n)) (let same : first ≡ first + 0 = omega arith in same)
  row_in first (suc count) (suc k) lt = row_in (suc first) count k (omega (arith, lt))
      ∙ ap (λ (n : ℕ). (p n, g n)) (let same : suc first + k ≡ first + suc k = omega arith in same)

  all_rows : (P : ℕ × ℕ → Type 0) → ((e : ℕ) → P (p e, g e)) → (first count : ℕ) → AllByRecursion P (rows_from p g first count)
  all_rows P each first zero = tt
  all_rows P each first (suc count) = (each first, all_rows P each (suc first) count)

-- what is recorded fits its bytes in a format with twins
record_fits : (format : Format) (recorded : ℕ) → twins_in format ≡ true → recorded ≤ 9223372036854775807 → FitsRecord format recorded
record_fits Two recorded twins low = absurd (let clash : false ≡ true = twins in cc clash)
record_fits (Four store device) recorded twins low = omega (arith, low)

-- a version of a section has a spelling
pub record CanSpell (S : Shape) (u : Superblock) : Type 0 where
  pub inside : u.section < S.sections
  pub some_version : 1 ≤ u.version
  pub version_fits : u.version ≤ 9223372036854775807
  pub recorded_fits : u.recorded ≤ 9223372036854775807
  pub extents_fit : (e : ℕ) → FitsExtent S (u.pointers e) (u.generations e)

module _ (d : Dimensions) (g : IsGeometry d.format d.extents d.pages d.sections) where
  abbrev S : Shape
  S = store_shape d

  abbrev F : Formats
  F = formats_of (store_shape d)

  module _ (twins : twins_in d.format ≡ true) (u : Superblock) (can : CanSpell (store_shape d) u) where
    abbrev rows : List (ℕ × ℕ)
    rows = rows_from u.pointers u.generations 0 d.extents

    abbrev listed : List (ℕ × ℕ)
    listed = listed_extents S.section u.pointers u.generations u.section 0 d.extents

    listed_part : listed ≡ take (section_length d.extents d.sections u.section) (drop (section_start d.extents d.sections u.section) rows)
    listed_part = section_listed d.format d.extents d.pages d.sections g rows (length-rows u.pointers u.generations 0 d.extents) u.pointers u.generations
        (λ k lt. sym (row_in u.pointers u.generations 0 d.extents k lt ∙ ap (λ (n : ℕ). (u.pointers n, u.generations n)) (let same : 0 + k ≡ k = omega arith in same))) u.section

    section_fits : FitsSuperblock d.format u.version u.recorded d.extents d.pages d.sections u.section listed
    section_fits = subst (λ (rs : List (ℕ × ℕ)). FitsSuperblock d.format u.version u.recorded d.extents d.pages d.sections u.section rs) (sym listed_part) (record {
      first_version = can.some_version;
      last_version = omega (arith, can.version_fits);
      recorded_fits = record_fits d.format u.recorded twins can.recorded_fits;
      geometry = g;
      one_of_them = can.inside;
      count = omega (
        arith,
        length-take (section_length d.extents d.sections u.section) (drop (section_start d.extents d.sections u.section) rows),
        length-drop (section_start d.extents d.sections u.section) rows,
        length-rows u.pointers u.generations 0 d.extents,
        part_inside d.extents d.sections u.section,
      );
      each = all_in_part (FitsPair d.pages) (section_start d.extents d.sections u.section) (section_length d.extents d.sections u.section) rows
          (all_rows u.pointers u.generations (FitsPair d.pages)
          (λ e. record { pointer = (can.extents_fit e).0; generation = (let low : u.generations e ≤ 4294967295 = (can.extents_fit e).1 in omega (arith, low)) }) 0 d.extents);
    })

    -- its page spells it
    section_spelled : SpellsSuperblock (page_write S F (A_superblock u)).1 d.format u.version u.recorded d.extents d.pages d.sections u.section listed
    section_spelled = record { fits = section_fits; spelled = four_superblock S u.format u.section u.version u.recorded u.pointers u.generations twins }

    pub section_has : section_version d u.section (page_write S F (A_superblock u)).1 ≡ u.version
    section_has = sym (section_read (page_write S F (A_superblock u)).1 d d.format u.version u.recorded d.extents d.pages d.sections u.section u.section listed section_spelled refl (refl, refl, refl, refl, refl))

  module _ (r : Root) (fits : fits_root d.format r.version r.commands (places r.runs) ≡ true) (bounds : InBounds S r.version r.commands (length r.runs) (entries_of r.runs)) where
    most_here : greatest_runs (root_number (identity_in d.format)) ≡ most_runs_in d.format
    most_here = ap greatest_runs (roots.number_of_identity d.format) ∙ roots.most_by_number d.format

    marks_here : is_marked (root_number (identity_in d.format)) ≡ marks_in d.format
    marks_here = ap is_marked (roots.number_of_identity d.format) ∙ roots.marked_by_number d.format

    each_fits : AllByRecursion (FitsLocator (marks_in d.format)) (map as_locator (reverse (places r.runs)))
    each_fits = subst (AllByRecursion (FitsLocator (marks_in d.format))) (sym (map-reverse as_locator (places r.runs)))
        (all_reverse (FitsLocator (marks_in d.format)) (map as_locator (places r.runs)) (all_fit (marks_in d.format) (places r.runs) (and_parts _ _ fits).1))

    -- the page of a root spells it
    root_spelled : SpellsRoot (page_write S F (A_root r)).1 (identity_in d.format) r.version r.commands (map as_locator (reverse (places r.runs)))
    root_spelled = record {
      fits = record {
        identity = roots.identity_of_format d.format g.fits_format;
        first_version = bounds.some_version;
        last_version = (let high = bounds.version_fits in omega (arith, high));
        last_command = (let high = bounds.commands_fit in omega (arith, high));
        count = (let few = bounds.few_runs in omega (arith, few, most_here, length-map (reverse (places r.runs)) as_locator, length-reverse (places r.runs), length-places r.runs));
        each = subst (λ (b : Bool). AllByRecursion (FitsLocator b) (map as_locator (reverse (places r.runs)))) (sym marks_here) each_fits;
      };
      spelled = refl;
    }

    pub root_has : root_version d.format (page_write S F (A_root r)).1 ≡ r.version
    root_has = sym (root_read (page_write S F (A_root r)).1 d.format (identity_in d.format) r.version r.commands (map as_locator (reverse (places r.runs))) root_spelled (roots.number_of_identity d.format) refl)
