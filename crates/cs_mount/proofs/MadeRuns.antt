-- Runs that are read by what their root names alone.
use Rattle.std.proofs.Common.{◌≡◌, ◌∙◌, ◌+◌, ◌*◌, ◌^◌, ◌<◌, ◌≤◌, ◌++◌, ◌==◌, if◌then◌else◌, inl, inr, ℕ, zero, suc, Bool, true, false, List, [], ◌∷◌, Some, None, length, map, refl, sym, ap, subst, arith, length-append}
use Rattle.std.specs.Prelude.{slice_get}
use Rattle.std.specs.List.{AllByRecursion, range_with_len}
use Rattle.std.proofs.lemmas.Bool.{cases_eq}
use Rattle.std.proofs.lemmas.List.FromFn.{length-map-range_with_len}
use Rattle.std.proofs.lemmas.Option.{same_Some, slice_get_within}
use Rattle.cs_deps.specs.State.{NoneOn, State as GraphState}
use Rattle.cs_extent.proofs.Sections.{rows_are_all}
use Rattle.cs_extent.specs.Sections.{AreSections, count_of, format_of, pages_of as section_pages, rows_of}
use Rattle.cs_extent.specs.State.{IsWhole, State as ExtentsState, extents_at, shape}
use Rattle.cs_frame.proofs.GeometryLaws.{pages_on_device}
use Rattle.cs_frame.specs.declared.locators.Locator.{Locator}
use Rattle.cs_frame.specs.declared.superblocks.Superblock.{Superblock}
use Rattle.cs_frame.specs.Geometries.{Dimensions, IsGeometry, section_length, section_size}
use Rattle.cs_frame.specs.Locators.{KeepFormat}
use Rattle.cs_frame.specs.Superblocks.{FitsRecord, IsSuperblock, spelled_superblock}
use Rattle.cs_index.proofs.Newest.{all_newest}
use Rattle.cs_index.specs.declared.stored_runs.StoredRun.{StoredRun}
use Rattle.cs_index.specs.State.{newest_first, run_of}
use Rattle.cs_reader.proofs.Runs.{StandsAt, all_stand}
use Rattle.cs_reader.specs.ImageReads.{IsRunRead}
use Rattle.cs_reader.specs.Loads.{graph_at}
use Rattle.law_machine.specs.Device.{Shape}
use Rattle.law_machine.specs.Element.{Run}
use Rattle.law_machine.specs.Format.{Format, Four, Two}
use Rattle.law_machine.specs.Geometry.{shape_of, twins_in}
use Rattle.cs_mount.specs.MadeSections.{AreMadeFrom, IsMadeSection, StandsThere, made_row, made_rows, made_section}
use Rattle.cs_mount.specs.StorePairs.{pages_of, store_shape}
use Rattle.cs_mount.proofs.NewPages.{none_fits}

-- ---- the sections that are made for it

pub none_made : (d : Dimensions) (named : List Locator) → AreMadeFrom d named 0 []
none_made d named = record { size = refl; each = λ k it at. cc at }

pub more_made : (d : Dimensions) (named : List Locator) (k : ℕ) (sections : List Superblock) (it : Superblock) → AreMadeFrom d named k sections → IsMadeSection d named 1 k it → AreMadeFrom d named (k + 1) (sections ++ it ∷ [])
more_made d named k sections it was is = record {
  size = omega (arith, length-append sections (it ∷ []), was.size);
  each = λ j other at. one sections was.size was.each j other at;
}
  where
    one : (xs : List Superblock) → length xs ≡ k → ((j : ℕ) (other : Superblock) → slice_get xs j ≡ Some other → IsMadeSection d named 1 j other)
        → (j : ℕ) (other : Superblock) → slice_get (xs ++ it ∷ []) j ≡ Some other → IsMadeSection d named 1 j other
    one xs size each j other at = elim (cases_eq j (length xs)) [
      | inl last ↦ subst (λ (z : Superblock). IsMadeSection d named 1 j z) (same_Some it other (sym (at_end xs j last) ∙ at)) (subst (λ (m : ℕ). IsMadeSection d named 1 m it) (sym (last ∙ size)) is)
      | inr earlier ↦ each j other (sym (at_front xs j (let lt = slice_get_within (xs ++ it ∷ []) j other at in omega (arith, lt, earlier, length-append xs (it ∷ [])))) ∙ at)
    ]
      where
        at_end : (xs : List Superblock) (j : ℕ) → j ≡ length xs → slice_get (xs ++ it ∷ []) j ≡ Some it
        at_end [] j last = ap (λ (m : ℕ). slice_get (it ∷ []) m) last
        at_end (x ∷ xs) zero last = absurd (omega (arith, last))
        at_end (x ∷ xs) (suc j) last = at_end xs j (omega (arith, last))

        at_front : (xs : List Superblock) (j : ℕ) → j < length xs → slice_get (xs ++ it ∷ []) j ≡ slice_get xs j
        at_front [] j lt = absurd (omega (arith, lt))
        at_front (x ∷ xs) zero lt = refl
        at_front (x ∷ xs) (suc j) lt = at_front xs j (omega (arith, lt))

row_low : (pages : ℕ) (named : List Locator) (e : ℕ) → (made_row pages named e).0 ≤ pages
row_low pages [] e = omega arith
row_low pages (l ∷ named) e = pick (l.extent == e) (row_low pages named e)
  where
    pick : (b : Bool) → (made_row pages named e).0 ≤ pages → (if b then (pages, l.generation) else made_row pages named e).0 ≤ pages
    pick true rest = omega arith
    pick false rest = rest

rows_low : (pages : ℕ) (named : List Locator) (first count : ℕ) → AllByRecursion (λ (row : ℕ × ℕ). row.0 ≤ pages) (map (made_row pages named) (range_with_len first count))
rows_low pages named first zero = tt
rows_low pages named first (suc count) = (row_low pages named first, rows_low pages named (first + 1) count)

pub made_low : (d : Dimensions) (named : List Locator) (j : ℕ) → AllByRecursion (λ (row : ℕ × ℕ). row.0 ≤ d.pages) (made_rows d named j)
made_low d named j = rows_low d.pages named _ _

module _ (d : Dimensions) (g : IsGeometry d.format d.extents d.pages d.sections) (named : List Locator) where
  pub is_superblock : (version j : ℕ) (it : Superblock) → 1 ≤ version → version < 2 ^ 63 → j < d.sections → IsMadeSection d named version j it → IsSuperblock it
  is_superblock version j it first last lt is = record {
    first_version = omega (arith, is.version, first);
    last_version = omega (arith, is.version, last);
    recorded_fits = subst (λ (f : Format). FitsRecord f it.recorded) (sym is.format) (subst (λ (n : ℕ). FitsRecord d.format n) (sym is.recorded) (none_fits d.format));
    geometry = subst (λ (f : Format). IsGeometry f it.extent_count it.pages it.sections) (sym is.format)
        (subst (λ (n : ℕ). IsGeometry d.format n it.pages it.sections) (sym is.extents)
        (subst (λ (n : ℕ). IsGeometry d.format d.extents n it.sections) (sym is.pages)
        (subst (λ (n : ℕ). IsGeometry d.format d.extents d.pages n) (sym is.sections) g)));
    one_of_them = omega (arith, lt, is.section, is.sections);
    count = ap (λ (rows : List (ℕ × ℕ)). length rows) is.rows ∙ length-map-range_with_len (made_row d.pages named) _ _
        ∙ sym (ap (λ (n : ℕ). section_length n it.sections it.section) is.extents ∙ ap (λ (n : ℕ). section_length d.extents n it.section) is.sections ∙ ap (section_length d.extents d.sections) is.section);
    pointers = subst (λ (rows : List (ℕ × ℕ)). AllByRecursion (λ (row : ℕ × ℕ). row.0 ≤ it.pages) rows) (sym is.rows) (subst (λ (n : ℕ). AllByRecursion (λ (row : ℕ × ℕ). row.0 ≤ n) (made_rows d named j)) (sym is.pages) (made_low d named j));
  }

  module _ (sections : List Superblock) (are : AreMadeFrom d named d.sections sections) where
    -- the first of them says the same as all
    firsts : (format_of sections ≡ d.format) × (count_of sections ≡ d.extents) × (section_pages sections ≡ d.pages)
    firsts = by sections are.each (let some = g.fewest_sections in let size = are.size in omega arith)
      where
        by : (xs : List Superblock) → ((k : ℕ) (it : Superblock) → slice_get xs k ≡ Some it → IsMadeSection d named 1 k it) → 0 < length xs → (format_of xs ≡ d.format) × (count_of xs ≡ d.extents) × (section_pages xs ≡ d.pages)
        by [] each some = absurd (omega (arith, some))
        by (it ∷ xs) each some = let is = each 0 it refl in (is.format, is.extents, is.pages)

    pub are_sections : AreSections sections
    are_sections = record {
      some = let some = g.fewest_sections in let size = are.size in omega arith;
      each = λ k it at. let is = are.each k it at in let lt = slice_get_within sections k it at in record {
        is = is_superblock 1 k it (omega arith) (omega arith) (omega (arith, lt, are.size)) is;
        of_format = is.format ∙ sym firsts.0;
        of_extents = is.extents ∙ sym firsts.1;
        of_pages = is.pages ∙ sym firsts.2;
        of_sections = is.sections ∙ sym are.size;
        place = is.section;
      };
    }

    abbrev X : ExtentsState
    X = extents_at (format_of sections) (section_pages sections) (length sections) (rows_of sections)

    pub rows_long : length (rows_of sections) ≡ d.extents
    rows_long = rows_are_all sections are_sections ∙ firsts.1

    pub extents_are : extents_at (format_of sections) (section_pages sections) (length sections) (rows_of sections) ≡ extents_at d.format d.pages d.sections (rows_of sections)
    extents_are = ap (λ (f : Format). extents_at f (section_pages sections) (length sections) (rows_of sections)) firsts.0
        ∙ ap (λ (n : ℕ). extents_at d.format n (length sections) (rows_of sections)) firsts.2
        ∙ ap (λ (n : ℕ). extents_at d.format d.pages n (rows_of sections)) are.size

    shape_is : shape X ≡ store_shape d
    shape_is =
        ap shape extents_are ∙ ap (λ (n : ℕ). shape_of n d.pages d.sections (section_size n d.sections) d.format) rows_long

    pub shaped : (x : ExtentsState) → x ≡ extents_at (format_of sections) (section_pages sections) (length sections) (rows_of sections) → shape x ≡ store_shape d
    shaped x is = ap shape is ∙ shape_is

    pub format_is : (x : ExtentsState) → x ≡ extents_at (format_of sections) (section_pages sections) (length sections) (rows_of sections) → x.format ≡ d.format
    format_is x is = ap (λ (y : ExtentsState). y.format) is ∙ firsts.0

    -- the device has room
    pub room_there : (x : ExtentsState) → x ≡ extents_at (format_of sections) (section_pages sections) (length sections) (rows_of sections) → (count : ℕ) → pages_of d ≡ count → 2 + (shape x).extents * (shape x).pages ≤ count
    room_there x is count sized = subst (λ (S : Shape). 2 + S.extents * S.pages ≤ count) (sym (shaped x is))
        (let some = g.fewest_sections in let on = pages_on_device d.format d.extents d.pages d.sections g in omega (arith, some, on, sized))

    -- what was read stands there
    pub stand_there : (x : ExtentsState) → x ≡ extents_at (format_of sections) (section_pages sections) (length sections) (rows_of sections) → IsWhole x → (view : ℕ → List ℕ) (runs : List StoredRun)
        → AllByRecursion (IsRunRead x view) runs → AllByRecursion (StandsThere d view) (newest_first runs)
    stand_there x is whole view runs read =
        both (newest_first runs)
        (subst (λ (S : Shape). AllByRecursion (StandsAt S view) (newest_first runs)) (shaped x is) (all_stand x whole.geometry.fits_format whole.found_pages view runs read))
        (all_newest (λ (run : Run). run.place.extent < d.extents) runs (inside runs read))
      where
        inside : (xs : List StoredRun) → AllByRecursion (IsRunRead x view) xs → AllByRecursion (λ (run : StoredRun). (run_of run).place.extent < d.extents) xs
        inside [] all = tt
        inside (run ∷ xs) all = (subst (λ (S : Shape). run.place.extent < S.extents) (shaped x is) all.0.located.extent, inside xs all.1)

        both : (xs : List Run) → AllByRecursion (StandsAt (store_shape d) view) xs → AllByRecursion (λ (run : Run). run.place.extent < d.extents) xs → AllByRecursion (StandsThere d view) xs
        both [] a b = tt
        both (run ∷ xs) a b = (record { fits = a.0.fits; extent = b.0; inside = a.0.inside; stand = a.0.stand }, both xs a.1 b.1)

-- the page of a section that is made
pub made_is : (d : Dimensions) (named : List Locator) (version j : ℕ) (it : Superblock) (bytes : List ℕ) → IsMadeSection d named version j it
    → bytes ≡ spelled_superblock it.format it.version it.recorded it.extent_count it.pages it.sections it.section it.extents.items → bytes ≡ made_section d named version j
unfolding made_section
made_is d named version j it bytes is spelled = spelled
    ∙ ap (λ (f : Format). spelled_superblock f it.version it.recorded it.extent_count it.pages it.sections it.section it.extents.items) is.format
    ∙ ap (λ (n : ℕ). spelled_superblock d.format n it.recorded it.extent_count it.pages it.sections it.section it.extents.items) is.version
    ∙ ap (λ (n : ℕ). spelled_superblock d.format version n it.extent_count it.pages it.sections it.section it.extents.items) is.recorded
    ∙ ap (λ (n : ℕ). spelled_superblock d.format version 0 n it.pages it.sections it.section it.extents.items) is.extents
    ∙ ap (λ (n : ℕ). spelled_superblock d.format version 0 d.extents n it.sections it.section it.extents.items) is.pages
    ∙ ap (λ (n : ℕ). spelled_superblock d.format version 0 d.extents d.pages n it.section it.extents.items) is.sections
    ∙ ap (λ (n : ℕ). spelled_superblock d.format version 0 d.extents d.pages d.sections n it.extents.items) is.section
    ∙ ap (spelled_superblock d.format version 0 d.extents d.pages d.sections j) is.rows

-- nothing waits in a new graph
pub none_on : (versions : List ℕ) (root : ℕ) (g : GraphState) → g ≡ graph_at versions root → (p : ℕ) → NoneOn g p
none_on versions root g is p = subst (λ (h : GraphState). NoneOn h p) (sym is) (λ n w waits kept. let clash : None ≡ Some w = kept in absurd (cc clash))

-- in format 4 a place may have a mark
pub keeps_marks : (format : Format) → twins_in format ≡ true → (places : List Locator) → KeepFormat format places
keeps_marks Two twins places = absurd (let clash : false ≡ true = twins in cc clash)
keeps_marks (Four store device) twins places = λ off. absurd (let clash : true ≡ false = off in cc clash)
