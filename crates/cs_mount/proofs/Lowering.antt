-- A section that records an older root is one too, and what pages show as of a root.
use Rattle.std.proofs.Common.{◌≡◌, ◌≢◌, ◌≤◌, ℕ, List, [], ◌∷◌, None, Option, Some, Result, Ok, Err, IfOk, OnOk, min, slice_index, sym, ◌∙◌, ap, arith}
use Rattle.std.specs.List.{AllByRecursion}
use Rattle.std.proofs.Math.Nat.{min-le_left}
use Rattle.cs_frame.specs.Bytes.{number}
use Rattle.cs_frame.specs.declared.faults.FormatFault.{FormatFault}
use Rattle.cs_frame.specs.declared.faults.FormatFault.TheVariants.{OutOfMemory}
use Rattle.cs_frame.specs.declared.formats.FormatNumber.{FormatNumber}
use Rattle.cs_frame.specs.declared.formats.FormatNumber.TheVariants as of_number
use Rattle.cs_frame.specs.declared.superblocks.Superblock.{Superblock}
use Rattle.cs_frame.specs.FormatNumbers.{number_in}
use Rattle.cs_frame.specs.Faults.{HasFault}
use Rattle.cs_frame.specs.Pointers.{FitsExtent}
use Rattle.cs_frame.specs.Superblocks.{FitsSuperblock, IsSuperblock, SpellsSuperblock, format_in, spelled_superblock, superblock_extents, superblock_fault, superblock_record}
use Rattle.cs_frame.proofs.SuperblockLaws as superblocks
use Rattle.law_machine.specs.Format.{Format}
use Rattle.cs_mount.specs.Lowered.{lowered_by, lowered_page}

-- the pointers of a section
pub within : (pages : ℕ) (rows : List (ℕ × ℕ)) → AllByRecursion (FitsExtent pages) rows → AllByRecursion (λ (extent : ℕ × ℕ). extent.0 ≤ pages) rows
within pages [] each = tt
within pages (row ∷ rows) each = (each.0.pointer, within pages rows each.1)

pub lowered_fits : (it : Superblock) (root : ℕ) → FitsSuperblock it.format it.version it.recorded it.extent_count it.pages it.sections it.section it.extents.items → IsSuperblock (record it { recorded = min it.recorded root })
lowered_fits it root fits = record {
  first_version = fits.first_version;
  last_version = fits.last_version;
  recorded_fits = let less = min-le_left it.recorded root in omega (arith, less, fits.recorded_fits);
  geometry = fits.geometry;
  one_of_them = fits.one_of_them;
  count = fits.count;
  pointers = within it.pages it.extents.items fits.each;
}

-- a section that is spelled anew
module _ (page : List ℕ) (root : ℕ) (format : Format) (version recorded extents pages sections section : ℕ) (written : List (ℕ × ℕ)) (four : number_in format ≡ of_number.Four) (spells : SpellsSuperblock page format version recorded extents pages sections section written) where
  abbrev f : Format
  f = format_in of_number.Four page

  format_read : f ≡ format
  format_read = ap (λ (n : FormatNumber). format_in n page) (sym four) ∙ (superblocks.one_section page format version recorded extents pages sections section written spells).of_format

  none : superblock_fault of_number.Four page ≡ None
  none = ap (λ (n : FormatNumber). superblock_fault n page) (sym four) ∙ superblocks.spelled_has_none page format version recorded extents pages sections section written spells

  record_read : superblock_record of_number.Four page ≡ recorded
  record_read = ap (λ (n : FormatNumber). superblock_record n page) (sym four) ∙ (superblocks.one_section page format version recorded extents pages sections section written spells).of_record

  rows_read : superblock_extents of_number.Four page ≡ written
  rows_read = ap (λ (n : FormatNumber). superblock_extents n page) (sym four) ∙ (superblocks.one_section page format version recorded extents pages sections section written spells).of_written

  pub page_lowered : lowered_page root page ≡ spelled_superblock format version (min recorded root) extents pages sections section written
  page_lowered =
      let read = superblocks.one_section page format version recorded extents pages sections section written spells in
      let rows = superblock_extents of_number.Four page in
      ap (λ (o : Option FormatFault). lowered_by o root page) none
      ∙ ap (λ (g : Format). spelled_superblock g (number 4 12 page) (min (superblock_record of_number.Four page) root) (number 12 14 page) (number 14 16 page) (slice_index page 16) (slice_index page 17) rows) format_read
      ∙ ap (λ (n : ℕ). spelled_superblock format n (min (superblock_record of_number.Four page) root) (number 12 14 page) (number 14 16 page) (slice_index page 16) (slice_index page 17) rows) read.of_version
      ∙ ap (λ (n : ℕ). spelled_superblock format version (min n root) (number 12 14 page) (number 14 16 page) (slice_index page 16) (slice_index page 17) rows) record_read
      ∙ ap (λ (n : ℕ). spelled_superblock format version (min recorded root) n (number 14 16 page) (slice_index page 16) (slice_index page 17) rows) read.of_extents
      ∙ ap (λ (n : ℕ). spelled_superblock format version (min recorded root) extents n (slice_index page 16) (slice_index page 17) rows) read.of_pages
      ∙ ap (λ (n : ℕ). spelled_superblock format version (min recorded root) extents pages n (slice_index page 17) rows) read.of_sections
      ∙ ap (λ (n : ℕ). spelled_superblock format version (min recorded root) extents pages sections n rows) read.of_section
      ∙ ap (λ (es : List (ℕ × ℕ)). spelled_superblock format version (min recorded root) extents pages sections section es) rows_read

-- what the code makes of it
pub lowers : (page new : List ℕ) (root : ℕ) (it low : Superblock) → number_in it.format ≡ of_number.Four → SpellsSuperblock page it.format it.version it.recorded it.extent_count it.pages it.sections it.section it.extents.items
    → low ≡ record it { recorded = min it.recorded root } → SpellsSuperblock new low.format low.version low.recorded low.extent_count low.pages low.sections low.section low.extents.items → new ≡ lowered_page root page
lowers page new root it low four spells is spelled =
    spelled.spelled
    ∙ ap (λ (z : Superblock). spelled_superblock z.format z.version z.recorded z.extent_count z.pages z.sections z.section z.extents.items) is
    ∙ sym (page_lowered page root it.format it.version it.recorded it.extent_count it.pages it.sections it.section it.extents.items four spells)

-- bytes that spell none
pub stays_of : (page : List ℕ) (root : ℕ) (fault : FormatFault) → superblock_fault of_number.Four page ≡ Some fault → page ≡ lowered_page root page
stays_of page root fault is = sym (ap (λ (o : Option FormatFault). lowered_by o root page) is)

pub stays_by : {T R E : Type 0} (result : Result T FormatFault) (fault : FormatFault) (none : R) (told : Result R E) (page : List ℕ) (root : ℕ) → HasFault result (superblock_fault of_number.Four page) → result ≡ Err fault
    → IfOk told (λ it. (it ≡ none) × (fault ≢ OutOfMemory)) → OnOk told (page ≡ lowered_page root page)
stays_by result fault none (Ok t) page root has is other = stays_of page root fault ((has fault other.1).0 is)
stays_by result fault none (Err e) page root has is other = tt
