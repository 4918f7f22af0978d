-- Pages of sections that are spelled anew.
use Rattle.std.proofs.Common.{◌≡◌, inl, inr, ℕ, zero, suc, ◌+◌, Bool, true, false, List, if◌then◌else◌, slice_index, refl, sym, ap, ◌∙◌}
use Rattle.cs_frame.specs.Bytes.{number}
use Rattle.cs_frame.specs.declared.formats.FormatNumber.{FormatNumber}
use Rattle.cs_frame.specs.declared.formats.FormatNumber.TheVariants as of_number
use Rattle.cs_frame.specs.FirstFormat.{spelled_first_format}
use Rattle.cs_frame.specs.FormatNumbers.{number_in}
use Rattle.cs_frame.specs.Formats.{extents_of, formats_of, is_first_format}
use Rattle.cs_frame.specs.Superblocks.{SpellsSuperblock, format_in, spelled_superblock, superblock_extents, superblock_record, superblock_version}
use Rattle.cs_frame.proofs.SuperblockLaws as superblocks
use Rattle.law_machine.specs.Device.{Shape}
use Rattle.law_machine.specs.Format.{Format, Four, Two}
use Rattle.law_machine.specs.Geometry.{twins_in}
use Rattle.cs_reader.specs.ImageReads.{SpellsAt}
use Rattle.cs_mount.specs.Seals.{sealed_page}
use Rattle.cs_mount.specs.LeftOut.{left_out_page, left_out_rows}

-- the format with twins is the one of this number
pub four_number : (format : Format) → twins_in format ≡ true → number_in format ≡ of_number.Four
four_number Two twins = absurd (let clash : false ≡ true = twins in cc clash)
four_number (Four store device) twins = refl

-- what is made of the numbers of a page is made of what it spells
module _ (page : List ℕ) (format : Format) (version recorded extents pages sections section : ℕ) (written : List (ℕ × ℕ)) (twins : twins_in format ≡ true) (spells : SpellsSuperblock page format version recorded extents pages sections section written) where
  abbrev Made : Type 0
  Made = (format : Format) (version recorded extents pages sections section : ℕ) (written : List (ℕ × ℕ)) → List ℕ

  abbrev read : superblocks.IsRead page format version recorded extents pages sections section written
  read = superblocks.one_section page format version recorded extents pages sections section written spells

  four : number_in format ≡ of_number.Four
  four = four_number format twins

  pub format_read : format_in of_number.Four page ≡ format
  format_read = ap (λ (n : FormatNumber). format_in n page) (sym four) ∙ read.of_format

  pub record_read : superblock_record of_number.Four page ≡ recorded
  record_read = ap (λ (n : FormatNumber). superblock_record n page) (sym four) ∙ read.of_record

  pub rows_read : superblock_extents of_number.Four page ≡ written
  rows_read = ap (λ (n : FormatNumber). superblock_extents n page) (sym four) ∙ read.of_written

  pub version_read : superblock_version page ≡ version
  version_read = read.of_version

  made_of : (make : Made)
      → make (format_in of_number.Four page) (number 4 12 page) (superblock_record of_number.Four page) (number 12 14 page) (number 14 16 page) (slice_index page 16) (slice_index page 17) (superblock_extents of_number.Four page)
      ≡ make format version recorded extents pages sections section written
  made_of make =
      let r = superblock_record of_number.Four page in
      let rows = superblock_extents of_number.Four page in
      ap (λ (f : Format). make f (number 4 12 page) r (number 12 14 page) (number 14 16 page) (slice_index page 16) (slice_index page 17) rows) format_read
      ∙ ap (λ (n : ℕ). make format n r (number 12 14 page) (number 14 16 page) (slice_index page 16) (slice_index page 17) rows) read.of_version
      ∙ ap (λ (n : ℕ). make format version n (number 12 14 page) (number 14 16 page) (slice_index page 16) (slice_index page 17) rows) record_read
      ∙ ap (λ (n : ℕ). make format version recorded n (number 14 16 page) (slice_index page 16) (slice_index page 17) rows) read.of_extents
      ∙ ap (λ (n : ℕ). make format version recorded extents n (slice_index page 16) (slice_index page 17) rows) read.of_pages
      ∙ ap (λ (n : ℕ). make format version recorded extents pages n (slice_index page 17) rows) read.of_sections
      ∙ ap (λ (n : ℕ). make format version recorded extents pages sections n rows) read.of_section
      ∙ ap (λ (es : List (ℕ × ℕ)). make format version recorded extents pages sections section es) rows_read

  pub page_sealed : (root : ℕ) → sealed_page root page ≡ spelled_superblock format (version + 1) root extents pages sections section written
  page_sealed root = made_of (λ f v r e p s j w. spelled_superblock f (v + 1) root e p s j w)

  pub page_left_out : (lives : Bool) (place : ℕ) → left_out_page lives place page ≡ spelled_superblock format (version + 1) recorded extents pages sections section (left_out_rows pages lives place written)
  page_left_out lives place = made_of (λ f v r e p s j w. spelled_superblock f (v + 1) r e p s j (left_out_rows p lives place w))

-- what a section's page of format 4 spells, wherever it lies
pub as_section : (j : ℕ) (page : List ℕ) (format : Format) (version recorded extents pages sections : ℕ) (rows : List (ℕ × ℕ)) → twins_in format ≡ true
    → SpellsAt j page format version recorded extents pages sections rows → SpellsSuperblock page format version recorded extents pages sections j rows
as_section zero page format version recorded extents pages sections rows twins (inl is) = is
as_section zero page format version recorded extents pages sections rows twins (inr first) = absurd (let none : true ≡ false = sym twins ∙ ap twins_in first.written_in in cc none)
as_section (suc j) page format version recorded extents pages sections rows twins is = is

-- a store of format 4 spells no section in the first format
not_first : (format : Format) (number sections : ℕ) → twins_in format ≡ true → is_first_format format number sections ≡ false
not_first Two number sections twins = absurd (let clash : false ≡ true = twins in cc clash)
not_first (Four store device) number sections twins = refl

pub four_superblock : (S : Shape) (number j version recorded : ℕ) (p g : ℕ → ℕ) → twins_in S.format ≡ true
    → (formats_of S).superblock number j version recorded p g ≡ spelled_superblock S.format version recorded S.extents S.pages S.sections j (extents_of S.section p g j 0 S.extents)
four_superblock S number j version recorded p g twins =
    ap (λ (b : Bool). if b then spelled_first_format version S.pages (extents_of S.section p g j 0 S.extents) else spelled_superblock S.format version recorded S.extents S.pages S.sections j (extents_of S.section p g j 0 S.extents))
    (not_first S.format number S.sections twins)
