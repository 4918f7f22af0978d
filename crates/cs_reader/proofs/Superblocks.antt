-- The extents that the sections of a superblock record.
use Rattle.std.proofs.Common.{◌≡◌, inl, inr, ⊎_elim, ℕ, zero, suc, ◌+◌, ◌-◌, ◌/◌, ◌<◌, ◌≤◌, ◌^◌, Bool, true, false, List, [], ◌∷◌, length, take, drop, Some, None, nat_lt, ◌==◌, if◌then◌else◌, eq-eqb, le_trans, ne_eqb, true≢false, refl, sym, ap, ◌∙◌, subst, arith}
use Rattle.std.specs.Prelude.{◌↔◌, replicate, slice_index, slice_index_or}
use Rattle.std.specs.List.{AllByRecursion}
use Rattle.std.proofs.lemmas.Bool.{and_parts, and_right, cases_lt, eqb-true, lt-ltb}
use Rattle.std.proofs.lemmas.List.{get_or-drop, get_or-take, get_or_past, length-replicate}
use Rattle.cs_extent.proofs.Changes.{found_length, found_within}
use Rattle.cs_extent.specs.State.{IsWhole, State as ExtentsState, extents_at, extents_of, found_at, section_rows, shape}
use Rattle.cs_frame.proofs.FirstFormatLaws.{apart, one_of_first_format, page_zero_fits, spelled_has_none as first_has_none}
use Rattle.cs_frame.proofs.FormatLaws.{is_format}
use Rattle.cs_frame.proofs.GeometryLaws.{geometry_apart, lies_in_device, model_geometry, section_holds, section_inside, section_length-le}
use Rattle.cs_frame.proofs.SuperblockLaws.{one_format, one_section as section_of_page, page_whatever_root, spelled_has_none}
use Rattle.cs_frame.specs.FirstFormat.{IsOfFirstFormat, SpellsPageZero, spelled_first_format}
use Rattle.cs_frame.specs.FormatNumbers.{number_in}
use Rattle.cs_frame.specs.Formats.{extents_of as listed_extents, formats_of, is_first_format}
use Rattle.cs_frame.specs.Geometries.{IsGeometry, device_pages, section_length, section_size, section_start}
use Rattle.cs_frame.specs.Pointers.{FitsExtent as FitsPair}
use Rattle.cs_frame.specs.Superblocks.{FitsSuperblock, FitsRecord, SpellsSuperblock, record_in, spelled_superblock, superblock_extents, superblock_record}
use Rattle.law_machine.proofs.Shapes.{is_shape}
use Rattle.law_machine.specs.Apart.{any_run_on}
use Rattle.law_machine.specs.Device.{IsShape, Shape}
use Rattle.law_machine.specs.Element.{Run}
use Rattle.law_machine.specs.Extents.{Extents}
use Rattle.law_machine.specs.Format.{Format, Four, Two, number_of}
use Rattle.law_machine.specs.Frames.{IsFormat}
use Rattle.law_machine.specs.Geometry.{apart_in, shape_of}
use Rattle.law_machine.specs.Local.{LiesBelow}
use Rattle.law_machine.specs.Safe.{FitsExtent}
use Rattle.cs_reader.specs.ImageReads.{AreSectionsRead, SpellsAt}
use Rattle.cs_reader.proofs.Listed.{all_default}

-- ---- the extents that a section speaks of

-- what follows the first is spoken of as the whole is
next_speaks : (speaks : ℕ → ℕ) (j first size : ℕ) (Here Next : ℕ → Type 0) → ((k : ℕ) → k < suc size → (speaks (first + k) ≡ j) ↔ Here k)
    → ((k : ℕ) → Here (suc k) ↔ Next k) → (k : ℕ) → k < size → (speaks (suc first + k) ≡ j) ↔ Next k
next_speaks speaks j first size Here Next speak step k lt =
    let moved : speaks (suc first + k) ≡ speaks (first + suc k) = ap speaks (let n : suc first + k ≡ first + suc k = omega arith in n) in
    let here : (speaks (first + suc k) ≡ j) ↔ Here (suc k) = speak (suc k) (omega (arith, lt)) in (
      (λ (is : speaks (suc first + k) ≡ j). (step k).0 (here.0 (sym moved ∙ is))),
      (λ (next : Next k). moved ∙ here.1 ((step k).1 next)),
    )

next_rows : (pointers generations : ℕ → ℕ) (first : ℕ) (row : ℕ × ℕ) (rows : List (ℕ × ℕ))
    → ((k : ℕ) → k < suc (length rows) → (pointers (first + k), generations (first + k)) ≡ slice_index_or (row ∷ rows) k (0, 0))
    → (k : ℕ) → k < length rows → (pointers (suc first + k), generations (suc first + k)) ≡ slice_index_or rows k (0, 0)
next_rows pointers generations first row rows each k lt =
    ap (λ (n : ℕ). (pointers n, generations n)) (let n : suc first + k ≡ first + suc k = omega arith in n) ∙ each (suc k) (omega (arith, lt))

-- those that it speaks of, where they are so many from one on
listed_part : (speaks pointers generations : ℕ → ℕ) (j skip count first : ℕ) (rows : List (ℕ × ℕ))
    → ((k : ℕ) → k < length rows → (speaks (first + k) ≡ j) ↔ ((skip ≤ k) × (k < skip + count)))
    → ((k : ℕ) → k < length rows → (pointers (first + k), generations (first + k)) ≡ slice_index_or rows k (0, 0))
    → listed_extents speaks pointers generations j first (length rows) ≡ take count (drop skip rows)
listed_part speaks pointers generations j zero zero first [] speak each = refl
listed_part speaks pointers generations j zero (suc count) first [] speak each = refl
listed_part speaks pointers generations j (suc skip) zero first [] speak each = refl
listed_part speaks pointers generations j (suc skip) (suc count) first [] speak each = refl
listed_part speaks pointers generations j (suc skip) count first (row ∷ rows) speak each =
    let other : (speaks first == j) ≡ false = ne_eqb (speaks first) j (λ same.
    let h : (suc skip ≤ 0) × (0 < suc skip + count) = (speak 0 (omega arith)).0 (ap speaks (let n : first + 0 ≡ first = omega arith in n) ∙ same) in omega (arith, h.0)) in
    ap (λ (b : Bool). if b then (pointers first, generations first) ∷ listed_extents speaks pointers generations j (suc first) (length rows)
    else listed_extents speaks pointers generations j (suc first) (length rows)) other
    ∙ listed_part speaks pointers generations j skip count (suc first) rows
    (next_speaks speaks j first (length rows) (λ k. (suc skip ≤ k) × (k < suc skip + count)) (λ k. (skip ≤ k) × (k < skip + count)) speak (λ k. (
      (λ (h : (suc skip ≤ suc k) × (suc k < suc skip + count)). (omega (arith, h.0), omega (arith, h.1))),
      (λ (h : (skip ≤ k) × (k < skip + count)). (omega (arith, h.0), omega (arith, h.1))),
    )))
    (next_rows pointers generations first row rows each)
listed_part speaks pointers generations j zero zero first (row ∷ rows) speak each =
    let other : (speaks first == j) ≡ false = ne_eqb (speaks first) j (λ same.
    let h : (0 ≤ 0) × (0 < 0 + 0) = (speak 0 (omega arith)).0 (ap speaks (let n : first + 0 ≡ first = omega arith in n) ∙ same) in omega (arith, h.1)) in
    ap (λ (b : Bool). if b then (pointers first, generations first) ∷ listed_extents speaks pointers generations j (suc first) (length rows)
    else listed_extents speaks pointers generations j (suc first) (length rows)) other
    ∙ listed_part speaks pointers generations j zero zero (suc first) rows
    (next_speaks speaks j first (length rows) (λ k. (0 ≤ k) × (k < 0 + 0)) (λ k. (0 ≤ k) × (k < 0 + 0)) speak (λ k. (
      (λ (h : (0 ≤ suc k) × (suc k < 0 + 0)). absurd (omega (arith, h.1))),
      (λ (h : (0 ≤ k) × (k < 0 + 0)). absurd (omega (arith, h.1))),
    )))
    (next_rows pointers generations first row rows each)
listed_part speaks pointers generations j zero (suc count) first (row ∷ rows) speak each =
    let there : (speaks first == j) ≡ true = eq-eqb (speaks first) j
    (ap speaks (let n : first ≡ first + 0 = omega arith in n) ∙ (speak 0 (omega arith)).1 (omega arith, omega arith)) in
    ap (λ (b : Bool). if b then (pointers first, generations first) ∷ listed_extents speaks pointers generations j (suc first) (length rows)
    else listed_extents speaks pointers generations j (suc first) (length rows)) there
    ∙ ap (λ (r : ℕ × ℕ). r ∷ listed_extents speaks pointers generations j (suc first) (length rows))
    (ap (λ (n : ℕ). (pointers n, generations n)) (let n : first ≡ first + 0 = omega arith in n) ∙ each 0 (omega arith))
    ∙ ap (λ (l : List (ℕ × ℕ)). row ∷ l) (listed_part speaks pointers generations j zero count (suc first) rows
    (next_speaks speaks j first (length rows) (λ k. (0 ≤ k) × (k < 0 + suc count)) (λ k. (0 ≤ k) × (k < 0 + count)) speak (λ k. (
      (λ (h : (0 ≤ suc k) × (suc k < 0 + suc count)). (omega arith, omega (arith, h.1))),
      (λ (h : (0 ≤ k) × (k < 0 + count)). (omega arith, omega (arith, h.1))),
    )))
    (next_rows pointers generations first row rows each))

module _ (format : Format) (extents pages sections : ℕ) (g : IsGeometry format extents pages sections) where
  abbrev divided : Shape
  divided = shape_of extents pages sections (section_size extents sections) format

  -- the section of an extent that is there
  section_is : (e : ℕ) → e < extents → e / section_size extents sections ≡ divided.section e
  section_is e lt =
      let test : nat_lt e extents ≡ true = lt-ltb e extents lt in
      ap (λ (b : Bool). if b then e / section_size extents sections else 0) (sym test)

  -- what the formats list of a section, of pointers and generations that a list has
  pub section_listed : (written : List (ℕ × ℕ)) → length written ≡ extents → (pointers generations : ℕ → ℕ)
      → ((k : ℕ) → k < extents → (pointers k, generations k) ≡ slice_index_or written k (0, 0)) → (j : ℕ)
      → listed_extents divided.section pointers generations j 0 extents ≡ take (section_length extents sections j) (drop (section_start extents sections j) written)
  section_listed written same pointers generations each j =
      subst (λ (n : ℕ). listed_extents divided.section pointers generations j 0 n ≡ take (section_length extents sections j) (drop (section_start extents sections j) written)) same
      (listed_part divided.section pointers generations j (section_start extents sections j) (section_length extents sections j) 0 written
      (λ k lt. speak k (subst (λ (n : ℕ). k < n) same lt))
      (λ k lt. ap (λ (n : ℕ). (pointers n, generations n)) (let n : 0 + k ≡ k = omega arith in n) ∙ each k (subst (λ (n : ℕ). k < n) same lt)))
    where
      speak : (k : ℕ) → k < extents → (divided.section (0 + k) ≡ j)
          ↔ ((section_start extents sections j ≤ k) × (k < section_start extents sections j + section_length extents sections j))
      speak k lt =
          let here : divided.section (0 + k) ≡ divided.section k = ap (λ (n : ℕ). divided.section n) (let n : 0 + k ≡ k = omega arith in n) in
          let holds = section_holds format extents pages sections g k j lt in (
            (λ (is : divided.section (0 + k) ≡ j). holds.0 (section_is k lt ∙ sym here ∙ is)),
            (λ (both : (section_start extents sections j ≤ k) × (k < section_start extents sections j + section_length extents sections j)). here ∙ sym (section_is k lt) ∙ holds.1 both),
          )

  -- an extent's row stands in the part of its section
  pub row_at : (written : List (ℕ × ℕ)) (e j : ℕ) → e < extents → e / section_size extents sections ≡ j
      → slice_index_or (take (section_length extents sections j) (drop (section_start extents sections j) written)) (e - section_start extents sections j) (0, 0)
      ≡ slice_index_or written e (0, 0)
  row_at written e j lt is =
      let holds : (section_start extents sections j ≤ e) × (e < section_start extents sections j + section_length extents sections j) = (section_holds format extents pages sections g e j lt).0 is in
      get_or-take (section_length extents sections j) (drop (section_start extents sections j) written) (e - section_start extents sections j) (0, 0) (omega (arith, holds.0, holds.1))
      ∙ get_or-drop (section_start extents sections j) written (e - section_start extents sections j) (0, 0)
      ∙ ap (λ (n : ℕ). slice_index_or written n (0, 0)) (let back : section_start extents sections j + (e - section_start extents sections j) ≡ e = omega (arith, holds.0) in back)

  -- lists whose parts agree agree
  pub rows_agree : (xs ys : List (ℕ × ℕ))
      → ((j : ℕ) → j < sections → take (section_length extents sections j) (drop (section_start extents sections j) xs) ≡ take (section_length extents sections j) (drop (section_start extents sections j) ys))
      → (e : ℕ) → e < extents → slice_index_or xs e (0, 0) ≡ slice_index_or ys e (0, 0)
  rows_agree xs ys same e lt =
      sym (row_at xs e (e / section_size extents sections) lt refl)
      ∙ ap (λ (rows : List (ℕ × ℕ)). slice_index_or rows (e - section_start extents sections (e / section_size extents sections)) (0, 0))
      (same (e / section_size extents sections) (section_inside format extents pages sections g e lt))
      ∙ row_at ys e (e / section_size extents sections) lt refl

-- ---- what a page spells

-- it can be spelled
pub at_fits : (j : ℕ) (page : List ℕ) (format : Format) (version recorded extents pages sections : ℕ) (rows : List (ℕ × ℕ)) → SpellsAt j page format version recorded extents pages sections rows
    → FitsSuperblock format version recorded extents pages sections j rows
at_fits zero page format version recorded extents pages sections rows is = page_zero_fits page format version recorded extents pages sections 0 rows is
at_fits (suc j) page format version recorded extents pages sections rows is = is.fits

-- and it is one section
pub section_one : (page : List ℕ) (format : Format) (version recorded extents pages sections section : ℕ) (rows : List (ℕ × ℕ)) (f : Format) (w r e p s j : ℕ) (others : List (ℕ × ℕ))
    → SpellsSuperblock page format version recorded extents pages sections section rows → SpellsSuperblock page f w r e p s j others
    → (format ≡ f) × (extents ≡ e) × (pages ≡ p) × (sections ≡ s) × (section ≡ j) × (rows ≡ others) × (recorded ≡ r)
section_one page format version recorded extents pages sections section rows f w r e p s j others a b =
    let x = section_of_page page format version recorded extents pages sections section rows a in
    let y = section_of_page page f w r e p s j others b in
    let same : format ≡ f = one_format page format f x.of_digit x.of_format y.of_digit y.of_format in (
      same,
      sym x.of_extents ∙ y.of_extents,
      sym x.of_pages ∙ y.of_pages,
      sym x.of_sections ∙ y.of_sections,
      sym x.of_section ∙ y.of_section,
      sym x.of_written ∙ ap (λ (n : Format). superblock_extents (number_in n) page) same ∙ y.of_written,
      sym x.of_record ∙ ap (λ (n : Format). superblock_record (number_in n) page) same ∙ y.of_record,
    )

pub zero_one : (page : List ℕ) (format : Format) (version recorded extents pages sections section : ℕ) (rows : List (ℕ × ℕ)) (f : Format) (w r e p s j : ℕ) (others : List (ℕ × ℕ))
    → SpellsPageZero page format version recorded extents pages sections section rows → SpellsPageZero page f w r e p s j others
    → (format ≡ f) × (extents ≡ e) × (pages ≡ p) × (sections ≡ s) × (section ≡ j) × (rows ≡ others) × (recorded ≡ r)
zero_one page format version recorded extents pages sections section rows f w r e p s j others (inl a) (inl b) = section_one page format version recorded extents pages sections section rows f w r e p s j others a b
zero_one page format version recorded extents pages sections section rows f w r e p s j others (inl a) (inr b) =
    absurd (apart (number_in format) page (first_has_none page w p others b.spells) (spelled_has_none page format version recorded extents pages sections section rows a))
zero_one page format version recorded extents pages sections section rows f w r e p s j others (inr a) (inl b) =
    absurd (apart (number_in f) page (first_has_none page version pages rows a.spells) (spelled_has_none page f w r e p s j others b))
zero_one page format version recorded extents pages sections section rows f w r e p s j others (inr a) (inr b) =
    let x = one_of_first_format page version pages rows a.spells in
    let y = one_of_first_format page w p others b.spells in
    let same : rows ≡ others = sym x.2 ∙ y.2 in (
      a.written_in ∙ sym b.written_in,
      a.all_extents ∙ ap length same ∙ sym b.all_extents,
      sym x.1 ∙ y.1,
      a.one_section ∙ sym b.one_section,
      a.first_section ∙ sym b.first_section,
      same,
      a.no_record ∙ sym b.no_record,
    )

pub at_one : (j : ℕ) (page : List ℕ) (format : Format) (version recorded extents pages sections : ℕ) (rows : List (ℕ × ℕ)) (f : Format) (w r e p s : ℕ) (others : List (ℕ × ℕ))
    → SpellsAt j page format version recorded extents pages sections rows → SpellsAt j page f w r e p s others → (rows ≡ others) × (recorded ≡ r)
at_one zero page format version recorded extents pages sections rows f w r e p s others a b =
    let one = zero_one page format version recorded extents pages sections 0 rows f w r e p s 0 others a b in (one.5, one.6)
at_one (suc j) page format version recorded extents pages sections rows f w r e p s others a b =
    let one = section_one page format version recorded extents pages sections (suc j) rows f w r e p s (suc j) others a b in (one.5, one.6)

pub of_section : (j : ℕ) (page : List ℕ) (format : Format) (version recorded extents pages sections : ℕ) (rows : List (ℕ × ℕ)) → SpellsSuperblock page format version recorded extents pages sections j rows
    → SpellsAt j page format version recorded extents pages sections rows
of_section zero page format version recorded extents pages sections rows is = inl is
of_section (suc j) page format version recorded extents pages sections rows is = is

of_first : (j : ℕ) (page : List ℕ) (format : Format) (version recorded extents pages sections : ℕ) (rows : List (ℕ × ℕ)) → j ≡ 0 → IsOfFirstFormat page format version recorded extents pages sections j rows
    → SpellsAt j page format version recorded extents pages sections rows
of_first zero page format version recorded extents pages sections rows first is = inr is
of_first (suc j) page format version recorded extents pages sections rows first is = absurd (omega (arith, first))

-- ---- in the words of the machine's formats

-- no store writes its sections in the first format
own_number : (format : Format) (sections : ℕ) → is_first_format format (number_of format) sections ≡ false
own_number Two sections = refl
own_number (Four store device) sections = refl

-- nor is a section of several in it
several_apart : (format : Format) (number sections : ℕ) → (sections == 1) ≡ false → is_first_format format number sections ≡ false
several_apart Two number sections several = and_right (number == 1) (sections == 1) several
several_apart (Four store device) number sections several = refl

-- what is in it is the one section of a store of format 2
first_parts : (format : Format) (number sections : ℕ) → is_first_format format number sections ≡ true → (format ≡ Two) × (sections ≡ 1)
first_parts Two number sections test = (refl, eqb-true sections 1 (and_parts (number == 1) (sections == 1) test).1)
first_parts (Four store device) number sections test = absurd (true≢false (sym test))

first_number : (format : Format) (sections : ℕ) → format ≡ Two → sections ≡ 1 → is_first_format format 1 sections ≡ true
first_number format sections second one = ap (λ (f : Format). is_first_format f 1 sections) second ∙ eq-eqb sections 1 one

all_of_them : (n : ℕ) → n ≡ section_length n 1 0
all_of_them n = omega arith

-- of the first format nothing is recorded
none_in : (format : Format) (recorded : ℕ) → format ≡ Two → FitsRecord format recorded → recorded ≡ 0
none_in format recorded second fits = let low : recorded < 1 = subst (λ (f : Format). FitsRecord f recorded) second fits in omega arith

module _ (S : Shape) (pointers generations : ℕ → ℕ) where
  -- the rows of section j
  abbrev listed : ℕ → List (ℕ × ℕ)
  listed j = listed_extents S.section pointers generations j 0 S.extents

  abbrev of_first_format : (j version : ℕ) → List ℕ
  of_first_format j version = spelled_first_format version S.pages (listed j)

  abbrev in_sections : (j version recorded : ℕ) → List ℕ
  in_sections j version recorded = spelled_superblock S.format version recorded S.extents S.pages S.sections j (listed j)

  -- in the store's format they spell a section of several
  pub own_format : (j version recorded : ℕ) → (formats_of S).superblock (number_of S.format) j version recorded pointers generations ≡ in_sections j version recorded
  own_format j version recorded = ap (λ (b : Bool). if b then of_first_format j version else in_sections j version recorded) (own_number S.format S.sections)

  first_spelled : (j version recorded : ℕ) (page : List ℕ) → j ≡ 0 → S.format ≡ Two → S.sections ≡ 1 → FitsSuperblock S.format version recorded S.extents S.pages S.sections j (listed j) → page ≡ of_first_format j version
      → IsOfFirstFormat page S.format version recorded S.extents S.pages S.sections j (listed j)
  first_spelled j version recorded page first second one fits is =
      let g : IsGeometry Two S.extents S.pages S.sections = subst (λ (f : Format). IsGeometry f S.extents S.pages S.sections) second fits.geometry in
      let count : length (listed j) ≡ S.extents = fits.count ∙ ap (λ (n : ℕ). section_length S.extents n j) one ∙ ap (section_length S.extents 1) first ∙ sym (all_of_them S.extents) in
      let most : section_length S.extents S.sections j ≤ section_size S.extents S.sections = section_length-le S.extents S.sections j in
      record {
        spells = record {
          fits = record {
            first_version = fits.first_version;
            last_version = fits.last_version;
            fewest_extents = omega (arith, count, g.fewest_extents);
            most_extents = omega (arith, fits.count, most, g.section_fits);
            fewest_pages = g.fewest_pages;
            most_pages = g.most_pages;
            each = fits.each;
          };
          spelled = is;
        };
        written_in = second;
        no_record = none_in S.format recorded second fits.recorded_fits;
        all_extents = sym count;
        one_section = one;
        first_section = first;
      }

  -- what they spell of a section, where it can be spelled, its page spells, with the record that the store's format has
  pub from_formats : (number j version recorded : ℕ) (page : List ℕ) → page ≡ (formats_of S).superblock number j version recorded pointers generations
      → FitsSuperblock S.format version (record_in S.format recorded) S.extents S.pages S.sections j (listed j) → SpellsAt j page S.format version (record_in S.format recorded) S.extents S.pages S.sections (listed j)
  from_formats number j version recorded page is fits = go (is_first_format S.format number S.sections) refl is
    where
      go : (b : Bool) → is_first_format S.format number S.sections ≡ b → page ≡ (if b then of_first_format j version else in_sections j version recorded)
          → SpellsAt j page S.format version (record_in S.format recorded) S.extents S.pages S.sections (listed j)
      go true test is =
          let both = first_parts S.format number S.sections test in
          let second : S.format ≡ Two = both.0 in
          let one : S.sections ≡ 1 = both.1 in
          let inside : j < S.sections = fits.one_of_them in
          let first : j ≡ 0 = omega (arith, one, inside) in
          of_first j page S.format version (record_in S.format recorded) S.extents S.pages S.sections (listed j) first (first_spelled j version (record_in S.format recorded) page first second one fits is)
      go false test is = of_section j page S.format version (record_in S.format recorded) S.extents S.pages S.sections (listed j)
          (record { fits = fits; spelled = is ∙ sym (page_whatever_root S.format version recorded S.extents S.pages S.sections j (listed j)) })

  -- what page 0 spells, one of them spells
  pub zero_formats : (version recorded : ℕ) (page : List ℕ) (rows : List (ℕ × ℕ)) → listed 0 ≡ rows → SpellsPageZero page S.format version recorded S.extents S.pages S.sections 0 rows
      → (number : ℕ) × (page ≡ (formats_of S).superblock number 0 version recorded pointers generations)
  zero_formats version recorded page rows same (inl is) =
      (number_of S.format, is.spelled ∙ ap (spelled_superblock S.format version recorded S.extents S.pages S.sections 0) (sym same) ∙ sym (own_format 0 version recorded))
  zero_formats version recorded page rows same (inr is) =
      let test : is_first_format S.format 1 S.sections ≡ true = first_number S.format S.sections is.written_in is.one_section in
      (1, is.spells.spelled ∙ ap (spelled_first_format version S.pages) (sym same) ∙ ap (λ (b : Bool). if b then of_first_format 0 version else in_sections 0 version recorded) (sym test))

  -- and what the page of a further section spells, each of them
  pub section_formats : (number j version recorded : ℕ) (page : List ℕ) (rows : List (ℕ × ℕ)) → listed (suc j) ≡ rows → suc j < S.sections
      → SpellsSuperblock page S.format version recorded S.extents S.pages S.sections (suc j) rows → page ≡ (formats_of S).superblock number (suc j) version recorded pointers generations
  section_formats number j version recorded page rows same inside is =
      let several : (S.sections == 1) ≡ false = ne_eqb S.sections 1 (λ one. omega (arith, one, inside)) in
      let test : is_first_format S.format number S.sections ≡ false = several_apart S.format number S.sections several in
      is.spelled ∙ ap (spelled_superblock S.format version recorded S.extents S.pages S.sections (suc j)) (sym same)
      ∙ ap (λ (b : Bool). if b then of_first_format (suc j) version else in_sections (suc j) version recorded) (sym test)

-- ---- what is read

fits_at : (pages : ℕ) (rows : List (ℕ × ℕ)) → AllByRecursion (FitsPair pages) rows → (e : ℕ)
    → ((slice_index_or rows e (0, 0)).0 ≤ pages) × ((slice_index_or rows e (0, 0)).1 ≤ 4294967295)
fits_at pages [] all e = (omega arith, omega arith)
fits_at pages (row ∷ rows) all zero = (all.0.pointer, (let lt = all.0.generation in omega (arith, lt)))
fits_at pages (row ∷ rows) all (suc e) = fits_at pages rows all.1 e

-- all pages of an extent count as found where so many are given at open
pub found_all : (written : List (ℕ × ℕ)) (e : ℕ) → slice_index (found_at true written) e ≡ (slice_index_or written e (0, 0)).0
found_all [] e = refl
found_all (row ∷ written) zero = refl
found_all (row ∷ written) (suc e) = found_all written e

module _ (view : ℕ → List ℕ) (format : Format) (versions records : List ℕ) (pages : ℕ) (written : List (ℕ × ℕ)) (is : AreSectionsRead view format versions records pages written) where
  abbrev x : ExtentsState
  x = extents_at format pages (length versions) written

  pub read_shape : IsShape (shape x)
  read_shape = is_shape (length written) pages (length versions) (section_size (length written) (length versions)) format (model_geometry format (length written) pages (length versions) is.geometry)
      (geometry_apart format (length written) pages (length versions) is.geometry)

  pub read_format : IsFormat (shape x) (formats_of (shape x))
  read_format = is_format format (length written) pages (length versions) is.geometry

  pub read_below : LiesBelow (shape x) (device_pages format (length written) pages (length versions))
  read_below = lies_in_device format (length written) pages (length versions) is.geometry

  -- what each section has can be spelled
  pub read_fits : (j : ℕ) → j < length versions → FitsSuperblock format (slice_index versions j) (slice_index records j) (length written) pages (length versions) j (section_rows x j)
  read_fits j lt = at_fits j (view ((shape x).section_page j)) format (slice_index versions j) (slice_index records j) (length written) pages (length versions) (section_rows x j) (is.each j lt)

  -- the formats list a section's rows
  pub read_listed : (j : ℕ) → listed_extents (shape x).section (extents_of x).pointer (extents_of x).generation j 0 (length written) ≡ section_rows x j
  read_listed j = section_listed format (length written) pages (length versions) is.geometry written refl (extents_of x).pointer (extents_of x).generation (λ k lt. refl) j

  abbrev Fits : ℕ × ℕ → Type 0
  Fits row = (row.0 ≤ pages) × (row.1 ≤ 4294967295)

  pub extents_fit : (e : ℕ) → FitsExtent (shape x) ((extents_of x).pointer e) ((extents_of x).generation e)
  extents_fit e = ⊎_elim
      (λ (lt : e < length written). subst Fits
      (row_at format (length written) pages (length versions) is.geometry written e (e / section_size (length written) (length versions)) lt refl)
      (fits_at pages (section_rows x (e / section_size (length written) (length versions)))
      (read_fits (e / section_size (length written) (length versions)) (section_inside format (length written) pages (length versions) is.geometry e lt)).each
      (e - section_start (length written) (length versions) (e / section_size (length written) (length versions)))))
      (λ (past : length written ≤ e). subst Fits (sym (get_or_past written e (0, 0) past)) (omega arith, omega arith))
      (cases_lt e (length written))

  -- what every extents keep
  pub read_whole : IsWhole x
  read_whole = record {
    geometry = is.geometry;
    all_resets = length-replicate (length written) 0;
    all_swept = length-replicate (length written) false;
    all_kinds = length-replicate (length written) false;
    all_found = found_length (apart_in format) written;
    pointers = λ e. (extents_fit e).0;
    found_pages = λ e. le_trans (found_within (apart_in format) written e) (extents_fit e).0;
    found_given = λ on e. found_within (apart_in format) written e;
    roots = λ e. subst (λ (k : ℕ). k < 2 ^ 63) (sym (all_default (length written) e 0)) (omega arith);
    open_inside = λ e none. absurd (let wrong : None ≡ Some e = none in cc);
    open_begun = λ e none. absurd (let wrong : None ≡ Some e = none in cc);
  }

  -- where extents are filled up, all pages that are given count as found
  pub read_found : (shape x).fills ≡ true → (e : ℕ) → (extents_of x).found e ≡ (extents_of x).pointer e
  read_found on e = ap (λ (b : Bool). slice_index (found_at b written) e) (read_shape.fills on) ∙ found_all written e

-- Extents that are read: nothing is open, reset or being swept. Where chunks and runs lie apart those of runs are the ones on which a run
-- lies, and all pages that are given count as found
abbrev pub read_as : (lying : Bool) → ExtentsState → List Run → Extents
read_as lying x runs = record {
  pointer = (extents_of x).pointer;
  generation = (extents_of x).generation;
  reset = λ e. 0;
  open_extent = None;
  swept = λ e. false;
  of_runs = if lying then any_run_on runs else λ e. false;
  found = if lying then (extents_of x).pointer else λ e. 0;
  fresh = None;
  last = None;
}

none_found : (lying : Bool) → lying ≡ false → (written : List (ℕ × ℕ)) (e : ℕ) → slice_index (found_at lying written) e ≡ 0
none_found true not written e = absurd (true≢false not)
none_found false not written e = all_default (length written) e 0

-- where chunks and runs may lie on one extent nothing is noted of them
pub extents_are : (format : Format) (pages sections : ℕ) (written : List (ℕ × ℕ)) (runs : List Run) → apart_in format ≡ false
    → extents_of (extents_at format pages sections written) ≡ read_as (apart_in format) (extents_at format pages sections written) runs
extents_are format pages sections written runs not = bare
    ∙ ap (λ (b : Bool). read_as b (extents_at format pages sections written) runs) (sym not)
  where
    bare : extents_of (extents_at format pages sections written) ≡ read_as false (extents_at format pages sections written) runs
    bare = λ i. record {
      pointer = (extents_of (extents_at format pages sections written)).pointer;
      generation = (extents_of (extents_at format pages sections written)).generation;
      reset = λ e. all_default (length written) e 0 i;
      open_extent = None;
      swept = λ e. all_default (length written) e false i;
      of_runs = λ e. all_default (length written) e false i;
      found = λ e. none_found (apart_in format) not written e i;
      fresh = None;
      last = None;
    }

-- the same, with what is noted where chunks and runs lie apart
pub extents_with : (format : Format) (pages sections : ℕ) (written : List (ℕ × ℕ)) (of_runs : ℕ → Bool) (found : ℕ → ℕ)
    → record (extents_of (extents_at format pages sections written)) { of_runs = of_runs; found = found } ≡ record {
      pointer = (extents_of (extents_at format pages sections written)).pointer;
      generation = (extents_of (extents_at format pages sections written)).generation;
      reset = λ e. 0;
      open_extent = None;
      swept = λ e. false;
      of_runs = of_runs;
      found = found;
      fresh = None;
      last = None;
    }
extents_with format pages sections written of_runs found = λ i. record {
  pointer = (extents_of (extents_at format pages sections written)).pointer;
  generation = (extents_of (extents_at format pages sections written)).generation;
  reset = λ e. all_default (length written) e 0 i;
  open_extent = None;
  swept = λ e. all_default (length written) e false i;
  of_runs = of_runs;
  found = found;
  fresh = None;
  last = None;
}

-- where all are empty and there are no runs, by either rule
module _ (format : Format) (pages sections extents : ℕ) where
  abbrev none_given : List (ℕ × ℕ)
  none_given = replicate extents (0, 0)

  abbrev empty_ones : ExtentsState
  empty_ones = extents_at format pages sections (replicate extents (0, 0))

  runs_noted : (b : Bool) → (extents_of empty_ones).of_runs ≡ (if b then any_run_on [] else λ e. false)
  runs_noted true = λ i. λ e. all_default (length none_given) e false i
  runs_noted false = λ i. λ e. all_default (length none_given) e false i

  pages_noted : (b : Bool) → (λ e. slice_index (found_at b none_given) e) ≡ (if b then (extents_of empty_ones).pointer else λ e. 0)
  pages_noted true = λ i. λ e. found_all none_given e i
  pages_noted false = λ i. λ e. all_default (length none_given) e 0 i

  pub empty_extents_are : extents_of empty_ones ≡ read_as (apart_in format) empty_ones []
  empty_extents_are = λ i. record {
    pointer = (extents_of empty_ones).pointer;
    generation = (extents_of empty_ones).generation;
    reset = λ e. all_default (length none_given) e 0 i;
    open_extent = None;
    swept = λ e. all_default (length none_given) e false i;
    of_runs = (runs_noted (apart_in format)) i;
    found = (pages_noted (apart_in format)) i;
    fresh = None;
    last = None;
  }
