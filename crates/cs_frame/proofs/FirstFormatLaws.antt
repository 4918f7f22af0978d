-- A page without a fault as a superblock of the first format is spelled so, and what is spelled so has no fault and
-- is read as it was.
use Rattle.std.proofs.Common.{◌≡◌, ◌≢◌, ◌⊎◌, ℕ, ◌+◌, ◌*◌, ◌≤◌, ◌==◌, true, false, Bool, List, ◌++◌, length, take, slice_index, codes, None, Some, refl, sym, ap, subst, inl, inr, ⊎_elim, ◌∙◌, arith, bytes_eq, length-append, eq-eqb, ne_eqb, if◌then◌else◌}
use Rattle.byteorder.specs.Endian.{big_bytes}
use Rattle.cs_frame.specs.declared.faults.FormatFault.TheVariants.{BadVersion}
use Rattle.cs_frame.specs.declared.formats.FormatNumber.{FormatNumber}
use Rattle.cs_frame.specs.declared.formats.FormatNumber.TheVariants as of_number
use Rattle.cs_frame.specs.Bytes.{IsPage, field, number}
use Rattle.cs_frame.specs.FormatNumbers.{number_in, section_digit}
use Rattle.cs_frame.specs.Geometries.{greatest_superblock_extents, in_bounds, section_length}
use Rattle.law_machine.specs.Format.{Format, Two}
use Rattle.cs_frame.specs.Pages.{padded, sealed}
use Rattle.cs_frame.specs.FirstFormat.{FitsFirstFormat, SpellsFirstFormat, first_format_end, first_format_extents, first_format_fault, first_format_fields, page_zero_fault, IsOfFirstFormat, SpellsPageZero, spelled_first_format, zero_format}
use Rattle.cs_frame.specs.Superblocks.{FitsSuperblock, SpellsSuperblock, superblock_fault}
use Rattle.cs_frame.proofs.SuperblockLaws.{fourth_is as section_fourth, refused_as, same_magic, spelled_has_none as section_has_none}
use Rattle.cs_frame.specs.Pointers.{extents_from, spelled_extents}
use Rattle.cs_frame.proofs.ExtentPageLaws.{are_read, count_again, extents_from-spelled, first_bytes, fourth_byte, head_is_spelled, length-spelled_extents, other_digit, pages_again, sound, sound_passes, spelled_is_sound, tail_again, version_again}
use Rattle.cs_frame.proofs.Fields.{field_at, take_more}
use Rattle.cs_frame.proofs.GeometryLaws.{in_bounds-within, within}
use Rattle.cs_frame.proofs.PageLaws.{page_is_padded}

-- no section has the digit of the first format
pub not_first : (n : FormatNumber) → section_digit n ≡ 49 → ⊥
not_first of_number.Two is = omega (arith, is)
not_first of_number.Four is = omega (arith, is)

-- ---- a page without a fault

-- the numbers of extents and pages pass
abbrev counts : List ℕ → Bool
counts page = in_bounds Two greatest_superblock_extents (number 12 14 page) (number 14 16 page)

-- a page without a fault spells what is read from it
pub spells : (page : List ℕ) (version pages : ℕ) (extents : List (ℕ × ℕ)) → IsPage page → first_format_fault page ≡ None → version ≡ number 4 12 page → pages ≡ number 14 16 page → extents ≡ first_format_extents page → SpellsFirstFormat page version pages extents
spells page version pages extents p h v c r =
    let it = sound page 49 (counts page) (first_format_end page) (first_format_extents page) p.size h in
    let bounds = within Two greatest_superblock_extents (number 12 14 page) (number 14 16 page) it.counted in
    let size = p.size in
    let bound : first_format_end page + 32 ≤ 4096 = omega (arith, bounds.most_extents) in
    let there = are_read page (number 14 16 page) 16 (first_format_end page) (number 12 14 page) p refl (omega arith) it.pointers in
    let k : length (first_format_extents page) ≡ number 12 14 page = there.counted in
    let fields : take (first_format_end page) page ≡ first_format_fields (number 4 12 page) (number 14 16 page) (first_format_extents page) =
    take_more page _ _ 16 (first_format_end page) (omega arith) (head_is_spelled page (codes "CSS1") p it.magic) (sym there.spelled)
    ∙ ap (λ (n : ℕ). codes "CSS1" ++ big_bytes 8 (number 4 12 page) ++ big_bytes 2 n ++ big_bytes 2 (number 14 16 page) ++ spelled_extents (first_format_extents page)) (sym k) in
    let whole : page ≡ spelled_first_format (number 4 12 page) (number 14 16 page) (first_format_extents page) = page_is_padded page (first_format_end page) size bound it.digest it.padding ∙ ap (λ (xs : List ℕ). padded (sealed xs)) fields in
    let fits : FitsFirstFormat (number 4 12 page) (number 14 16 page) (first_format_extents page) = record {
      first_version = it.first_version;
      last_version = it.last_version;
      fewest_extents = omega (arith, k, bounds.fewest_extents);
      most_extents = omega (arith, k, bounds.most_extents);
      fewest_pages = bounds.fewest_pages;
      most_pages = bounds.most_pages;
      each = there.each;
    } in
    subst (λ (n : ℕ). SpellsFirstFormat page n pages extents) (sym v)
    (subst (λ (n : ℕ). SpellsFirstFormat page (number 4 12 page) n extents) (sym c)
    (subst (λ (es : List (ℕ × ℕ)). SpellsFirstFormat page (number 4 12 page) (number 14 16 page) es) (sym r) (record { fits = fits; spelled = whole })))

-- ---- what is spelled

pub length-first_format_fields : (version pages : ℕ) (extents : List (ℕ × ℕ)) → length (first_format_fields version pages extents) ≡ 16 + 6 * length extents
length-first_format_fields version pages extents = omega (arith, length-append (codes "CSS1" ++ big_bytes 8 version ++ big_bytes 2 (length extents) ++ big_bytes 2 pages) (spelled_extents extents), length-spelled_extents extents)

module _ (version pages : ℕ) (extents : List (ℕ × ℕ)) (fits : FitsFirstFormat version pages extents) where
  short : length (first_format_fields version pages extents) + 32 ≤ 4096
  short = omega (arith, length-first_format_fields version pages extents, fits.most_extents)

  -- what is spelled is read again
  version_is_read : number 4 12 (spelled_first_format version pages extents) ≡ version
  version_is_read = version_again 49 version (length extents) pages (spelled_extents extents) (first_format_fields version pages extents) refl short fits.last_version

  count_is_read : number 12 14 (spelled_first_format version pages extents) ≡ length extents
  count_is_read = count_again 49 version (length extents) pages (spelled_extents extents) (first_format_fields version pages extents) refl short (omega (arith, fits.most_extents))

  pages_are_read : number 14 16 (spelled_first_format version pages extents) ≡ pages
  pages_are_read = pages_again 49 version (length extents) pages (spelled_extents extents) (first_format_fields version pages extents) refl short (omega (arith, fits.most_pages))

  end_is_read : length (first_format_fields version pages extents) ≡ first_format_end (spelled_first_format version pages extents)
  end_is_read = omega (arith, length-first_format_fields version pages extents, count_is_read)

  extents_are_read : first_format_extents (spelled_first_format version pages extents) ≡ extents
  extents_are_read =
      ap extents_from (field_at (spelled_first_format version pages extents) (spelled_extents extents) _ 16 (first_format_end (spelled_first_format version pages extents))
      (tail_again 49 version (length extents) pages (spelled_extents extents) (first_format_fields version pages extents) refl short) (omega (arith, length-spelled_extents extents, count_is_read)))
      ∙ extents_from-spelled pages (omega (arith, fits.most_pages)) extents fits.each

  -- and has no fault
  first_format_fault-spelled : first_format_fault (spelled_first_format version pages extents) ≡ None
  first_format_fault-spelled =
      let page : List ℕ = spelled_first_format version pages extents in
      let e = count_is_read in
      let n = pages_are_read in
      let counted : counts page ≡ true = in_bounds-within Two greatest_superblock_extents (number 12 14 page) (number 14 16 page) (record {
        fewest_extents = omega (arith, e, fits.fewest_extents);
        most_extents = omega (arith, e, fits.most_extents);
        fewest_pages = omega (arith, n, fits.fewest_pages);
        most_pages = omega (arith, n, fits.most_pages);
      }) in
      sound_passes page 49 (counts page) (first_format_end page) (first_format_extents page)
      (spelled_is_sound 49 version (length extents) pages (spelled_extents extents) (first_format_fields version pages extents) refl short (counts page) (first_format_end page) extents (first_format_extents page)
      fits.first_version fits.last_version (omega (arith, fits.most_pages)) end_is_read counted fits.each extents_are_read)

-- what spells one has no fault
pub spelled_has_none : (page : List ℕ) (version pages : ℕ) (extents : List (ℕ × ℕ)) → SpellsFirstFormat page version pages extents → first_format_fault page ≡ None
spelled_has_none page version pages extents s = ap first_format_fault s.spelled ∙ first_format_fault-spelled version pages extents s.fits

-- and nothing else is read
pub one_of_first_format : (page : List ℕ) (version pages : ℕ) (extents : List (ℕ × ℕ)) → SpellsFirstFormat page version pages extents → (number 4 12 page ≡ version) × (number 14 16 page ≡ pages) × (first_format_extents page ≡ extents)
one_of_first_format page version pages extents s =
    (ap (number 4 12) s.spelled ∙ version_is_read version pages extents s.fits, ap (number 14 16) s.spelled ∙ pages_are_read version pages extents s.fits, ap first_format_extents s.spelled ∙ extents_are_read version pages extents s.fits)

-- and it has as many extents
pub count_of : (page : List ℕ) (version pages : ℕ) (extents : List (ℕ × ℕ)) → SpellsFirstFormat page version pages extents → number 12 14 page ≡ length extents
count_of page version pages extents s = ap (number 12 14) s.spelled ∙ count_is_read version pages extents s.fits

-- its fourth byte is the digit 1
pub fourth_is : (page : List ℕ) → first_format_fault page ≡ None → slice_index page 3 ≡ 49
fourth_is page h = fourth_byte page 49 (counts page) (first_format_end page) (first_format_extents page) h

-- a page with the first three bytes and another digit is refused for that
pub first_refused : (page : List ℕ) → bytes_eq (field 0 3 page) (codes "CSS") ≡ true → slice_index page 3 ≢ 49 → first_format_fault page ≡ Some BadVersion
first_refused page magic other = other_digit page 49 (counts page) (first_format_end page) (first_format_extents page) magic other

-- so it is refused as a section of any format by its fourth byte
pub first_as_section : (n : FormatNumber) (page : List ℕ) → first_format_fault page ≡ None → superblock_fault n page ≡ Some BadVersion
first_as_section n page h =
    refused_as n page (first_bytes page 49 (counts page) (first_format_end page) (first_format_extents page) h)
    (λ same. not_first n (sym same ∙ fourth_is page h))

-- and a section is refused in the first format
pub section_as_first : (n : FormatNumber) (page : List ℕ) → superblock_fault n page ≡ None → first_format_fault page ≡ Some BadVersion
section_as_first n page h = first_refused page (same_magic n page h) (λ same. not_first n (sym (section_fourth n page h) ∙ same))

-- ---- page 0

-- so the first format has no page in common with another
pub apart : (n : FormatNumber) (page : List ℕ) → first_format_fault page ≡ None → superblock_fault n page ≡ None → ⊥
apart n page a b = not_first n (sym (section_fourth n page b) ∙ fourth_is page a)

-- the fourth byte says which tests are made
pub zero_first : (page : List ℕ) → slice_index page 3 ≡ 49 → first_format_fault page ≡ page_zero_fault page
zero_first page is =
    let test : (slice_index page 3 == 49) ≡ true = eq-eqb (slice_index page 3) 49 is in
    ap (λ (b : Bool). if b then first_format_fault page else superblock_fault (zero_format page) page) (sym test)

pub zero_second : (page : List ℕ) → slice_index page 3 ≢ 49 → superblock_fault (zero_format page) page ≡ page_zero_fault page
zero_second page other =
    let test : (slice_index page 3 == 49) ≡ false = ne_eqb (slice_index page 3) 49 other in
    ap (λ (b : Bool). if b then first_format_fault page else superblock_fault (zero_format page) page) (sym test)

pub zero_of_first : (page : List ℕ) → first_format_fault page ≡ None → page_zero_fault page ≡ None
zero_of_first page h = sym (zero_first page (fourth_is page h)) ∙ h

-- the tests that are made are those of the section's format
pub zero_format-is : (n : FormatNumber) (page : List ℕ) → slice_index page 3 ≡ section_digit n → zero_format page ≡ n
zero_format-is of_number.Two page two = ap (λ (b : Bool). if b then of_number.Four else of_number.Two) (ne_eqb (slice_index page 3) 52 (λ four. omega (arith, two, four)))
zero_format-is of_number.Four page four = ap (λ (b : Bool). if b then of_number.Four else of_number.Two) (eq-eqb (slice_index page 3) 52 four)

pub zero_spells : (page : List ℕ) (format : Format) (version recorded extents pages sections section : ℕ) (written : List (ℕ × ℕ)) → SpellsSuperblock page format version recorded extents pages sections section written → zero_format page ≡ number_in format
zero_spells page format version recorded extents pages sections section written s =
    zero_format-is (number_in format) page (section_fourth (number_in format) page (section_has_none page format version recorded extents pages sections section written s))

pub zero_of_section : (n : FormatNumber) (page : List ℕ) → superblock_fault n page ≡ None → page_zero_fault page ≡ None
zero_of_section n page h =
    let fourth = section_fourth n page h in
    sym (zero_second page (λ same. not_first n (sym fourth ∙ same)))
    ∙ ap (λ (m : FormatNumber). superblock_fault m page) (zero_format-is n page fourth) ∙ h

-- what page 0 spells, where it has no fault, it spells in the first format or in the one of its fourth byte
pub zero_is_one : (page : List ℕ) → page_zero_fault page ≡ None → (first_format_fault page ≡ None) ⊎ (superblock_fault (zero_format page) page ≡ None)
zero_is_one page h = go (slice_index page 3 == 49) h
  where
    go : (b : Bool) → (if b then first_format_fault page else superblock_fault (zero_format page) page) ≡ None
        → (first_format_fault page ≡ None) ⊎ (superblock_fault (zero_format page) page ≡ None)
    go true h = inl h
    go false h = inr h

-- a superblock of the first format is one section, of all extents, of a store of format 2
pub first_format_fits : (version pages : ℕ) (extents : List (ℕ × ℕ)) → FitsFirstFormat version pages extents → FitsSuperblock Two version 0 (length extents) pages 1 0 extents
first_format_fits version pages extents fits = record {
  first_version = fits.first_version;
  last_version = fits.last_version;
  recorded_fits = omega arith;
  geometry = record {
    fits_format = tt;
    fewest_extents = fits.fewest_extents;
    most_extents = omega (arith, fits.most_extents);
    fewest_pages = fits.fewest_pages;
    most_pages = fits.most_pages;
    fewest_sections = omega arith;
    most_sections = omega arith;
    section_fits = omega (arith, fits.most_extents);
    none_empty = omega (arith, fits.fewest_extents);
    fits_device = tt;
  };
  one_of_them = omega arith;
  count = whole (length extents);
  each = fits.each;
}
  where
    whole : (n : ℕ) → n ≡ section_length n 1 0
    whole n = omega arith

-- a section that page 0 spells can be spelled
pub page_zero_fits : (page : List ℕ) (format : Format) (version recorded extents pages sections section : ℕ) (written : List (ℕ × ℕ))
    → SpellsPageZero page format version recorded extents pages sections section written → FitsSuperblock format version recorded extents pages sections section written
page_zero_fits page format version recorded extents pages sections section written = ⊎_elim
    (λ (s : SpellsSuperblock page format version recorded extents pages sections section written). s.fits)
    (λ (s : IsOfFirstFormat page format version recorded extents pages sections section written).
    subst (λ (n : Format). FitsSuperblock n version recorded extents pages sections section written) (sym s.written_in)
    (subst (λ (n : ℕ). FitsSuperblock Two version n extents pages sections section written) (sym s.no_record)
    (subst (λ (n : ℕ). FitsSuperblock Two version 0 n pages sections section written) (sym s.all_extents)
    (subst (λ (n : ℕ). FitsSuperblock Two version 0 (length written) pages n section written) (sym s.one_section)
    (subst (λ (n : ℕ). FitsSuperblock Two version 0 (length written) pages 1 n written) (sym s.first_section)
    (first_format_fits version pages written s.spells.fits))))))
