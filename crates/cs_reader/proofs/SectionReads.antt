-- Sections of a superblock, read one after another.
use Rattle.std.proofs.Common.{◌≡◌, ◌⊎◌, inl, inr, ⊎_elim, ◌∙◌, ℕ, zero, suc, ◌+◌, ◌-◌, ◌*◌, ◌<◌, ◌≤◌, ◌==◌, Bool, false, List, [], ◌∷◌, ◌++◌, Some, None, length, map, take, drop, ne_eqb, if◌then◌else◌, mul-le-mul_right, refl, sym, ap, subst, arith}
use Rattle.std.specs.Prelude.{option_map, slice_get, slice_index}
use Rattle.std.proofs.lemmas.Bool.{cases_eq}
use Rattle.std.proofs.lemmas.List.{drop-drop, drop_at, length-map, take_at}
use Rattle.std.proofs.lemmas.Option.{get_or_from_slice_get, same_Some, slice_get-map, slice_get_within}
use Rattle.cs_chunk.specs.Reads.{IsNoAnswer, IsOfFault}
use Rattle.cs_refusal.specs.declared.refusals.Refusal.{Refusal}
use Rattle.cs_refusal.specs.declared.refusals.Refusal.TheVariants.{NotAStore}
use Rattle.cs_extent.proofs.Sections.{geometry_is, rows_are_all}
use Rattle.cs_extent.specs.Sections.{AreSections, IsSectionAt, count_of, format_of, pages_of, rows_of}
use Rattle.cs_frame.proofs.FirstFormatLaws.{page_zero_fits}
use Rattle.cs_frame.specs.declared.superblocks.Superblock.{Superblock}
use Rattle.cs_frame.specs.FirstFormat.{SpellsPageZero, page_zero_fault}
use Rattle.cs_frame.specs.FormatNumbers.{number_in}
use Rattle.cs_frame.specs.Geometries.{IsGeometry, device_pages, lengths_below, section_length, section_size, section_start}
use Rattle.cs_frame.specs.Pointers.{FitsExtent}
use Rattle.cs_frame.specs.Superblocks.{FitsSuperblock, IsSuperblock, SpellsSuperblock, superblock_fault}
use Rattle.cs_reader.specs.ImageReads.{AreSectionsRead, SpellsAt}
use Rattle.cs_index.proofs.Sorted.{all_map, some_at}
use Rattle.cs_reader.specs.Openings.{HasNumbers, IsSectionThere, IsWhyNoFirst, IsWhyNoSection, IsWhyNoSections, SpellsFirst, SpellsFurther}
use Rattle.law_machine.specs.Format.{Format}

-- ---- one section

-- what a page spells can be spelled
fits_is : (it : Superblock) → FitsSuperblock it.format it.version it.recorded it.extent_count it.pages it.sections it.section it.extents.items → IsSuperblock it
fits_is it fits = record {
  first_version = fits.first_version;
  last_version = fits.last_version;
  recorded_fits = fits.recorded_fits;
  geometry = fits.geometry;
  one_of_them = fits.one_of_them;
  count = fits.count;
  pointers = all_map (FitsExtent it.pages) (λ (extent : ℕ × ℕ). extent.0 ≤ it.pages) it.extents.items (λ extent fit. fit.pointer) fits.each;
}

module _ (format : Format) (extents pages sections section : ℕ) (it : Superblock) (has : HasNumbers format extents pages sections section it) where
  at_fits : FitsSuperblock it.format it.version it.recorded it.extent_count it.pages it.sections it.section it.extents.items → IsSectionAt format extents pages sections section it
  at_fits fits = record { is = fits_is it fits; of_format = has.of_format; of_extents = has.of_extents; of_pages = has.of_pages; of_sections = has.of_sections; place = has.place }

  pub further_at : (bytes : List ℕ) × SpellsFurther bytes it → IsSectionAt format extents pages sections section it
  further_at spelled = at_fits spelled.1.fits

  -- by these numbers
  pub with_numbers : (bytes : List ℕ) → SpellsSuperblock bytes it.format it.version it.recorded it.extent_count it.pages it.sections it.section it.extents.items
      → SpellsSuperblock bytes format it.version it.recorded extents pages sections section it.extents.items
  with_numbers bytes spelled =
      subst (λ (n : Format). SpellsSuperblock bytes n it.version it.recorded extents pages sections section it.extents.items) has.of_format
      (subst (λ (n : ℕ). SpellsSuperblock bytes it.format it.version it.recorded n pages sections section it.extents.items) has.of_extents
      (subst (λ (n : ℕ). SpellsSuperblock bytes it.format it.version it.recorded it.extent_count n sections section it.extents.items) has.of_pages
      (subst (λ (n : ℕ). SpellsSuperblock bytes it.format it.version it.recorded it.extent_count it.pages n section it.extents.items) has.of_sections
      (subst (λ (n : ℕ). SpellsSuperblock bytes it.format it.version it.recorded it.extent_count it.pages it.sections n it.extents.items) has.place spelled))))

-- all sections have the first one's format
pub format_of_first : (sections : List Superblock) (it : Superblock) → slice_get sections 0 ≡ Some it → it.format ≡ format_of sections
format_of_first [] it at = absurd (cc at)
format_of_first (first ∷ sections) it at = ap (λ (x : Superblock). x.format) (sym (same_Some first it at))

-- the number of a further section's page
pub number_is : (a b c extents pages section : ℕ) → a ≡ extents → b ≡ pages → c ≡ section → 1 + a * b + c ≡ 1 + extents * pages + section
number_is a b c extents pages section e p s = ap (λ n. 1 + n * b + c) e ∙ ap (λ n. 1 + extents * n + c) p ∙ ap (λ n. 1 + extents * pages + n) s

-- page 0 has another section
pub other_first : (bytes : List ℕ) (it : Superblock) → SpellsFirst bytes it → (it.section ≡ 0 → ⊥) → IsNoAnswer NotAStore ⊎ IsWhyNoFirst bytes NotAStore
other_first bytes it spelled other = inr (inr (record {
  format = it.format;
  version = it.version;
  recorded = it.recorded;
  extents = it.extent_count;
  pages = it.pages;
  sections = it.sections;
  section = it.section;
  rows = it.extents.items;
  superblock = spelled;
  other = other;
  refusal = refl;
}))

pub damaged_first : (bytes : List ℕ) (r : Refusal) → IsNoAnswer r ⊎ IsOfFault (page_zero_fault bytes) r
    → IsNoAnswer r ⊎ IsWhyNoFirst bytes r
damaged_first bytes r why = ⊎_elim (λ n. inl n) (λ f. inr (inl f)) why

-- a further page has another
pub other_further : (format : Format) (extents pages sections section : ℕ) (bytes : List ℕ) (it : Superblock) → number_in it.format ≡ number_in format → (HasNumbers format extents pages sections section it → ⊥)
    → SpellsFurther bytes it
    → IsNoAnswer NotAStore ⊎ IsWhyNoSection format extents pages sections section bytes NotAStore
other_further format extents pages sections section bytes it same_number other spelled = inr (inr (record {
  their_format = it.format;
  version = it.version;
  recorded = it.recorded;
  their_extents = it.extent_count;
  their_pages = it.pages;
  their_sections = it.sections;
  their_section = it.section;
  rows = it.extents.items;
  number = same_number;
  spelled = spelled;
  other = λ same. other (record { of_format = same.0; of_extents = same.1; of_pages = same.2; of_sections = same.3; place = same.4 });
  refusal = refl;
}))

pub damaged_further : (format : Format) (extents pages sections section : ℕ) (bytes : List ℕ) (r : Refusal) → IsNoAnswer r ⊎ IsOfFault (superblock_fault (number_in format) bytes) r
    → IsNoAnswer r ⊎ IsWhyNoSection format extents pages sections section bytes r
damaged_further format extents pages sections section bytes r why = ⊎_elim (λ n. inl n) (λ f. inr (inl f)) why

-- ---- one after another

-- where section j is
abbrev pub page_of : (extents pages sections j : ℕ) → ℕ
page_of extents pages sections j = if j == 0 then 0 else 1 + extents * pages + j

pub further_page : (extents pages sections j : ℕ) → 0 < j → 1 + extents * pages + j ≡ page_of extents pages sections j
further_page extents pages sections j some =
    let test : (j == 0) ≡ false = ne_eqb j 0 (λ z. omega (arith, z, some)) in
    ap (λ (b : Bool). if b then 0 else 1 + extents * pages + j) (sym test)

-- the first so many sections were read
pub record AreReadTo (honest : Type 0) (view : ℕ → List ℕ) (format : Format) (extents pages sections count : ℕ) (items : List Superblock) : Type 0 where
  pub places : (j : ℕ) (it : Superblock) → slice_get items j ≡ Some it → IsSectionAt format extents pages sections j it
  pub spelled : honest → (j : ℕ) (it : Superblock) → slice_get items j ≡ Some it
      → SpellsAt j (view (page_of extents pages sections j)) format it.version it.recorded extents pages sections it.extents.items
  pub there : honest → (j : ℕ) → 0 < j → j < count → IsSectionThere view format extents pages sections j

-- the last of a list, or one before it
pub in_push : {X : Type 0} (xs : List X) (y : X) (k : ℕ) (x : X) → slice_get (xs ++ y ∷ []) k ≡ Some x → (slice_get xs k ≡ Some x) ⊎ ((k ≡ length xs) × (y ≡ x))
in_push [] y zero x h = inr (refl, same_Some y x h)
in_push [] y (suc k) x h = absurd (cc h)
in_push (z ∷ xs) y zero x h = inl h
in_push (z ∷ xs) y (suc k) x h = ⊎_elim (λ (l : slice_get xs k ≡ Some x). inl l) (λ (r : (k ≡ length xs) × (y ≡ x)). inr (ap suc r.0, r.1)) (in_push xs y k x h)

further_spelled : (j : ℕ) (bytes : List ℕ) (format : Format) (version recorded extents pages sections : ℕ) (rows : List (ℕ × ℕ)) → 0 < j
    → SpellsSuperblock bytes format version recorded extents pages sections j rows → SpellsAt j bytes format version recorded extents pages sections rows
further_spelled zero bytes format version recorded extents pages sections rows some spelled = absurd (omega (arith, some))
further_spelled (suc j) bytes format version recorded extents pages sections rows some spelled = spelled

module _ (honest : Type 0) (view : ℕ → List ℕ) where
  -- the first alone
  pub first_read : (it : Superblock) → it.section ≡ 0
      → (bytes : List ℕ) × SpellsFirst bytes it
      → (honest → SpellsFirst (view 0) it)
      → AreReadTo honest view it.format it.extent_count it.pages it.sections 1 (it ∷ [])
  first_read it first some read = record {
    places = λ j other at. ⊎_elim
        (λ (none : slice_get [] j ≡ Some other). absurd (let clash : None ≡ Some other = none in cc clash))
        (λ (here : (j ≡ 0) × (it ≡ other)). subst (λ (x : Superblock). IsSectionAt it.format it.extent_count it.pages it.sections j x) here.1
        (subst (λ (n : ℕ). IsSectionAt it.format it.extent_count it.pages it.sections n it) (sym here.0) (record {
          is = fits_is it (page_zero_fits some.0 it.format it.version it.recorded it.extent_count it.pages it.sections it.section it.extents.items some.1);
          of_format = refl;
          of_extents = refl;
          of_pages = refl;
          of_sections = refl;
          place = first;
        })))
        (in_push [] it j other at);
    spelled = λ h j other at. ⊎_elim
        (λ (none : slice_get [] j ≡ Some other). absurd (let clash : None ≡ Some other = none in cc clash))
        (λ (here : (j ≡ 0) × (it ≡ other)).
        subst (λ (x : Superblock). SpellsAt j (view (page_of it.extent_count it.pages it.sections j)) it.format x.version x.recorded it.extent_count it.pages it.sections x.extents.items) here.1
        (subst (λ (n : ℕ). SpellsAt n (view (page_of it.extent_count it.pages it.sections n)) it.format it.version it.recorded it.extent_count it.pages it.sections it.extents.items) (sym here.0)
        (subst (λ (n : ℕ). SpellsPageZero (view 0) it.format it.version it.recorded it.extent_count it.pages it.sections n it.extents.items) first (read h))))
        (in_push [] it j other at);
    there = λ h j some few. absurd (omega (arith, some, few));
  }

  -- one more
  pub more_read : (format : Format) (extents pages sections count : ℕ) (items : List Superblock) → AreReadTo honest view format extents pages sections count items → length items ≡ count → 0 < count
      → (it : Superblock) → HasNumbers format extents pages sections count it
      → (bytes : List ℕ) × SpellsFurther bytes it
      → (honest → SpellsFurther (view (1 + extents * pages + count)) it)
      → AreReadTo honest view format extents pages sections (count + 1) (items ++ it ∷ [])
  more_read format extents pages sections count items so_far long some it has spelled read = record {
    places = λ j other at. ⊎_elim
        (λ (l : slice_get items j ≡ Some other). so_far.places j other l)
        (λ (here : (j ≡ length items) × (it ≡ other)). subst (λ (x : Superblock). IsSectionAt format extents pages sections j x) here.1
        (subst (λ (n : ℕ). IsSectionAt format extents pages sections n it) (sym (here.0 ∙ long)) (further_at format extents pages sections count it has spelled)))
        (in_push items it j other at);
    spelled = λ h j other at. ⊎_elim
        (λ (l : slice_get items j ≡ Some other). so_far.spelled h j other l)
        (λ (here : (j ≡ length items) × (it ≡ other)).
        subst (λ (x : Superblock). SpellsAt j (view (page_of extents pages sections j)) format x.version x.recorded extents pages sections x.extents.items) here.1
        (subst (λ (n : ℕ). SpellsAt n (view (page_of extents pages sections n)) format it.version it.recorded extents pages sections it.extents.items) (sym (here.0 ∙ long))
        (further_spelled count (view (page_of extents pages sections count)) format it.version it.recorded extents pages sections it.extents.items some
        (subst (λ (n : ℕ). SpellsSuperblock (view n) format it.version it.recorded extents pages sections count it.extents.items) (further_page extents pages sections count some)
        (with_numbers format extents pages sections count it has (view (1 + extents * pages + count)) (read h))))))
        (in_push items it j other at);
    there = λ h j further lt. ⊎_elim
        (λ (same : j ≡ count). subst (λ (n : ℕ). IsSectionThere view format extents pages sections n) (sym same) (record {
          version = it.version;
          recorded = it.recorded;
          rows = it.extents.items;
          superblock = with_numbers format extents pages sections count it has (view (1 + extents * pages + count)) (read h);
        }))
        (λ (other : j ≡ count → ⊥). so_far.there h j further (omega (arith, lt, other)))
        (cases_eq j count);
  }

  -- or not
  pub none_more : (format : Format) (extents pages sections count : ℕ) (items : List Superblock) (r : Refusal) → AreReadTo honest view format extents pages sections count items → honest → 0 < count → count < sections
      → IsNoAnswer r ⊎ IsWhyNoSection format extents pages sections count (view (1 + extents * pages + count)) r
      → IsNoAnswer r ⊎ IsWhyNoSections view format extents pages sections r
  none_more format extents pages sections count items r so_far h some lt why = ⊎_elim (λ n. inl n)
      (λ (w : IsWhyNoSection format extents pages sections count (view (1 + extents * pages + count)) r).
      inr (record { section = count; further = some; one_of_them = lt; before = so_far.there h; why = w }))
      why

-- ---- all of them

-- how many extents the first so many have
abbrev before : List Superblock → ℕ → ℕ
before [] j = 0
before (it ∷ items) zero = 0
before (it ∷ items) (suc j) = length it.extents.items + before items j

-- the part of a section among the rows of all
part_at : (items : List Superblock) (j : ℕ) (it : Superblock) → slice_get items j ≡ Some it
    → take (length it.extents.items) (drop (before items j) (rows_of items)) ≡ it.extents.items
part_at [] j it at = absurd (cc at)
part_at (first ∷ items) zero it at =
    subst (λ (x : Superblock). take (length x.extents.items) (first.extents.items ++ rows_of items) ≡ x.extents.items) (same_Some first it at)
    (take_at first.extents.items (rows_of items) (length first.extents.items) refl)
part_at (first ∷ items) (suc j) it at =
    ap (λ (rows : List (ℕ × ℕ)). take (length it.extents.items) rows)
    (sym (drop-drop (before items j) (length first.extents.items) (first.extents.items ++ rows_of items))
    ∙ ap (λ (rows : List (ℕ × ℕ)). drop (before items j) rows) (drop_at first.extents.items (rows_of items) (length first.extents.items) refl))
    ∙ part_at items j it at

-- as many as they should
before_is : (extents pages sections k : ℕ) (items : List Superblock)
    → ((i : ℕ) (it : Superblock) → slice_get items i ≡ Some it → length it.extents.items ≡ section_length extents sections (k + i))
    → (j : ℕ) → j ≤ length items → lengths_below extents sections k + before items j ≡ lengths_below extents sections (k + j)
before_is extents pages sections k [] each j le =
    let none : j ≡ 0 = omega (arith, le) in
    let same : k ≡ k + j = omega (arith, none) in
    (let add : lengths_below extents sections k + 0 ≡ lengths_below extents sections k = omega arith in add) ∙ ap (lengths_below extents sections) same
before_is extents pages sections k (it ∷ items) each zero le =
    let same : k ≡ k + 0 = omega arith in
    (let add : lengths_below extents sections k + 0 ≡ lengths_below extents sections k = omega arith in add) ∙ ap (lengths_below extents sections) same
before_is extents pages sections k (it ∷ items) each (suc j) le =
    let here : length it.extents.items ≡ section_length extents sections k = each 0 it refl ∙ ap (section_length extents sections) (let n : k + 0 ≡ k = omega arith in n) in
    let next : lengths_below extents sections (suc k) + before items j ≡ lengths_below extents sections (suc k + j) = before_is extents pages sections (suc k) items
    (λ i other at. each (suc i) other at ∙ ap (section_length extents sections) (let n : k + suc i ≡ suc k + i = omega arith in n)) j (omega (arith, le)) in
    let end : lengths_below extents sections (suc k + j) ≡ lengths_below extents sections (k + suc j) = ap (lengths_below extents sections) (let n : suc k + j ≡ k + suc j = omega arith in n) in
    omega (arith, here, next, end)

-- where no section is empty but the last may be short, those before one are whole
below_is : (format : Format) (extents pages sections : ℕ) → IsGeometry format extents pages sections → (j : ℕ) → j < sections → lengths_below extents sections j ≡ section_start extents sections j
below_is format extents pages sections g zero lt = omega arith
below_is format extents pages sections g (suc j) lt =
    let so_far : lengths_below extents sections j ≡ section_start extents sections j = below_is format extents pages sections g j (omega (arith, lt)) in
    let next : suc j * section_size extents sections ≡ j * section_size extents sections + section_size extents sections = omega arith in
    let low : suc j * section_size extents sections ≤ (sections - 1) * section_size extents sections = mul-le-mul_right (section_size extents sections) (omega (arith, lt)) in
    let last : (sections - 1) * section_size extents sections < extents = g.none_empty in
    omega (arith, so_far, next, low, last)

module _ (honest : Type 0) (view : ℕ → List ℕ) (format : Format) (extents pages sections : ℕ) (items : List Superblock) (are : AreReadTo honest view format extents pages sections sections items)
    (long : length items ≡ sections) (some : 0 < sections) where
  first : (it : Superblock) × (slice_get items 0 ≡ Some it)
  first = some_at items 0 (omega (arith, long, some))

  counts : (xs : List Superblock) (it : Superblock) → slice_get xs 0 ≡ Some it → (format_of xs ≡ it.format) × (count_of xs ≡ it.extent_count) × (pages_of xs ≡ it.pages)
  counts [] it at = absurd (cc at)
  counts (x ∷ xs) it at = let same : x ≡ it = same_Some x it at in (ap (λ (y : Superblock). y.format) same, ap (λ (y : Superblock). y.extent_count) same, ap (λ (y : Superblock). y.pages) same)

  format_is : format_of items ≡ format
  format_is = (counts items first.0 first.1).0 ∙ (are.places 0 first.0 first.1).of_format

  count_is : count_of items ≡ extents
  count_is = (counts items first.0 first.1).1 ∙ (are.places 0 first.0 first.1).of_extents

  pages_are : pages_of items ≡ pages
  pages_are = (counts items first.0 first.1).2 ∙ (are.places 0 first.0 first.1).of_pages

  pub all_sections : AreSections items
  all_sections = record {
    some = omega (arith, long, some);
    each = λ k it at.
        subst (λ (n : Format). IsSectionAt n (count_of items) (pages_of items) (length items) k it) (sym format_is)
        (subst (λ (n : ℕ). IsSectionAt format n (pages_of items) (length items) k it) (sym count_is)
        (subst (λ (n : ℕ). IsSectionAt format extents n (length items) k it) (sym pages_are)
        (subst (λ (n : ℕ). IsSectionAt format extents pages n k it) (sym long) (are.places k it at))));
  }

  geometry : IsGeometry format extents pages sections
  geometry = subst (λ (n : Format). IsGeometry n extents pages sections) format_is
      (subst (λ (n : ℕ). IsGeometry (format_of items) n pages sections) count_is
      (subst (λ (n : ℕ). IsGeometry (format_of items) (count_of items) n sections) pages_are
      (subst (λ (n : ℕ). IsGeometry (format_of items) (count_of items) (pages_of items) n) long (geometry_is items all_sections))))

  rows_count : length (rows_of items) ≡ extents
  rows_count = rows_are_all items all_sections ∙ count_is

  pub all_sized : (total : ℕ) → total ≡ device_pages format extents pages sections → total ≡ device_pages (format_of items) (length (rows_of items)) (pages_of items) (length items)
  all_sized total is = is
      ∙ ap (λ (n : Format). device_pages n extents pages sections) (sym format_is)
      ∙ ap (λ (n : ℕ). device_pages (format_of items) n pages sections) (sym rows_count)
      ∙ ap (λ (n : ℕ). device_pages (format_of items) (length (rows_of items)) n sections) (sym pages_are)
      ∙ ap (λ (n : ℕ). device_pages (format_of items) (length (rows_of items)) (pages_of items) n) (sym long)

  -- each has so many rows
  has_length : (j : ℕ) (it : Superblock) → slice_get items j ≡ Some it → length it.extents.items ≡ section_length extents sections j
  has_length j it at =
      let place = are.places j it at in
      place.is.count ∙ ap (λ (n : ℕ). section_length n it.sections it.section) place.of_extents ∙ ap (λ (n : ℕ). section_length extents n it.section) place.of_sections
      ∙ ap (section_length extents sections) place.place

  -- they stand where they should
  part_is : (j : ℕ) (it : Superblock) → slice_get items j ≡ Some it → take (section_length extents sections j) (drop (section_start extents sections j) (rows_of items)) ≡ it.extents.items
  part_is j it at =
      let inside : j < length items = slice_get_within items j it at in
      let begins : before items j ≡ section_start extents sections j =
      (let none : before items j ≡ 0 + before items j = omega arith in none)
      ∙ before_is extents pages sections 0 items (λ i other there. has_length i other there ∙ ap (section_length extents sections) (let n : i ≡ 0 + i = omega arith in n)) j (omega (arith, inside))
      ∙ ap (lengths_below extents sections) (let n : 0 + j ≡ j = omega arith in n)
      ∙ below_is format extents pages sections geometry j (omega (arith, inside, long)) in
      ap (λ (n : ℕ). take (section_length extents sections j) (drop n (rows_of items))) (sym begins)
      ∙ ap (λ (n : ℕ). take n (drop (before items j) (rows_of items))) (sym (has_length j it at))
      ∙ part_at items j it at

  abbrev versions : List ℕ
  versions = map (λ (it : Superblock). it.version) items

  abbrev records : List ℕ
  records = map (λ (it : Superblock). it.recorded) items

  versions_count : length versions ≡ sections
  versions_count = length-map items (λ (it : Superblock). it.version) ∙ long

  -- what a section's page spells, by the numbers of all
  abbrev Spelled : (j : ℕ) (f : Format) (version recorded e p s : ℕ) → Type 0
  Spelled j f version recorded e p s = SpellsAt j (view (page_of e p s j)) f version recorded e p s (take (section_length e s j) (drop (section_start e s j) (rows_of items)))

  pub all_read : honest → AreSectionsRead view (format_of items) versions records (pages_of items) (rows_of items)
  all_read h = record {
    geometry = subst (λ (n : Format). IsGeometry n (length (rows_of items)) (pages_of items) (length versions)) (sym format_is)
        (subst (λ (n : ℕ). IsGeometry format n (pages_of items) (length versions)) (sym rows_count)
        (subst (λ (n : ℕ). IsGeometry format extents n (length versions)) (sym pages_are)
        (subst (λ (n : ℕ). IsGeometry format extents pages n) (sym versions_count) geometry)));
    each = λ j lt.
        let there = some_at items j (omega (arith, lt, versions_count, long)) in
        let it : Superblock = there.0 in
        let number : slice_index versions j ≡ it.version = get_or_from_slice_get versions j it.version 0 (slice_get-map (λ (x : Superblock). x.version) items j ∙ ap (option_map (λ (x : Superblock). x.version)) there.1) in
        let record_is : slice_index records j ≡ it.recorded = get_or_from_slice_get records j it.recorded 0 (slice_get-map (λ (x : Superblock). x.recorded) items j ∙ ap (option_map (λ (x : Superblock). x.recorded)) there.1) in
        let spelled : SpellsAt j (view (page_of extents pages sections j)) format it.version it.recorded extents pages sections it.extents.items = are.spelled h j it there.1 in
        let rows : Spelled j format it.version it.recorded extents pages sections =
        subst (λ (rs : List (ℕ × ℕ)). SpellsAt j (view (page_of extents pages sections j)) format it.version it.recorded extents pages sections rs) (sym (part_is j it there.1)) spelled in
        subst (λ (v : ℕ). Spelled j (format_of items) v (slice_index records j) (length (rows_of items)) (pages_of items) (length versions)) (sym number)
        (subst (λ (v : ℕ). Spelled j (format_of items) it.version v (length (rows_of items)) (pages_of items) (length versions)) (sym record_is)
        (subst (λ (n : Format). Spelled j n it.version it.recorded (length (rows_of items)) (pages_of items) (length versions)) (sym format_is)
        (subst (λ (n : ℕ). Spelled j format it.version it.recorded (length (rows_of items)) (pages_of items) n) (sym versions_count)
        (subst (λ (n : ℕ). Spelled j format it.version it.recorded (length (rows_of items)) n sections) (sym pages_are)
        (subst (λ (n : ℕ). Spelled j format it.version it.recorded n pages sections) (sym rows_count) rows)))));
  }
