-- The first format of a superblock, one page for all extents, which is read and no longer written, and what page 0
-- spells in any format.
use Rattle.std.specs.Prelude.{◌≡◌, ◌⊎◌, ℕ, ◌+◌, ◌*◌, ◌^◌, ◌<◌, ◌≤◌, ◌==◌, List, [], ◌∷◌, ◌++◌, length, Option, codes, slice_index, if◌then◌else◌}
use Rattle.std.specs.List.{AllByRecursion}
use Rattle.byteorder.specs.Endian.{big_bytes}
use Rattle.law_machine.specs.Format.{Format, Two}
use Rattle.cs_frame.specs.declared.faults.FormatFault.{FormatFault}
use Rattle.cs_frame.specs.declared.faults.FormatFault.TheVariants.{BadLength}
use Rattle.cs_frame.specs.declared.formats.FormatNumber.{FormatNumber}
use Rattle.cs_frame.specs.declared.formats.FormatNumber.TheVariants as of_number
use Rattle.cs_frame.specs.Bytes.{field, number}
use Rattle.cs_frame.specs.Faults.{first_fault, unless}
use Rattle.cs_frame.specs.Geometries.{greatest_pages, greatest_superblock_extents, in_bounds, least_extents, least_pages}
use Rattle.cs_frame.specs.Pages.{digest_test, magic_test, padded, padding_test, sealed, version_test}
use Rattle.cs_frame.specs.Pointers.{FitsExtent, extents_from, pointers_test, spelled_extents, superblock_range_test}
use Rattle.cs_frame.specs.Superblocks.{SpellsSuperblock, superblock_fault}

-- |  0 | 4     | CSS1                                    |
-- |  4 | 8     | version                                 |
-- | 12 | 2     | E, the number of extents                |
-- | 14 | 2     | P, the pages of an extent               |
-- | 16 | 6 * E | pointer and generation of each extent   |
abbrev pub first_format_fields : (version pages : ℕ) → List (ℕ × ℕ) → List ℕ
first_format_fields version pages extents =
    codes "CSS1" ++ big_bytes 8 version ++ big_bytes 2 (length extents) ++ big_bytes 2 pages ++ spelled_extents extents

-- | 16 + 6 * E | 32 | digest of all bytes before |
-- | 48 + 6 * E |    | zeros to the end           |
abbrev pub spelled_first_format : (version pages : ℕ) → List (ℕ × ℕ) → List ℕ
spelled_first_format version pages extents = padded (sealed (first_format_fields version pages extents))

-- what has a spelling in the first format
pub record FitsFirstFormat (version pages : ℕ) (extents : List (ℕ × ℕ)) : Type 0 where
  pub first_version : 1 ≤ version
  pub last_version : version < 2 ^ 63
  pub fewest_extents : least_extents Two ≤ length extents
  pub most_extents : length extents ≤ greatest_superblock_extents
  pub fewest_pages : least_pages ≤ pages
  pub most_pages : pages ≤ greatest_pages Two
  pub each : AllByRecursion (FitsExtent pages) extents

-- the bytes are the spelling of these in the first format
pub record SpellsFirstFormat (bytes : List ℕ) (version pages : ℕ) (extents : List (ℕ × ℕ)) : Type 0 where
  pub fits : FitsFirstFormat version pages extents
  pub spelled : bytes ≡ spelled_first_format version pages extents

-- where the digest begins
abbrev pub first_format_end : List ℕ → ℕ
first_format_end bytes = 16 + 6 * number 12 14 bytes

-- pointer and generation of each extent, as bytes of the first format spell them
abbrev pub first_format_extents : List ℕ → List (ℕ × ℕ)
first_format_extents bytes = extents_from (field 16 (first_format_end bytes) bytes)

-- so many extents of so many pages have a superblock of the first format
abbrev pub first_format_bounds_test : List ℕ → Option FormatFault
first_format_bounds_test bytes = unless (in_bounds Two greatest_superblock_extents (number 12 14 bytes) (number 14 16 bytes)) BadLength

-- no pointer is past the extent's pages
abbrev pub first_format_pointer_test : List ℕ → Option FormatFault
first_format_pointer_test bytes = pointers_test (number 14 16 bytes) (first_format_extents bytes)

-- the tests of the first format in order
abbrev pub first_format_tests : List ℕ → List (Option FormatFault)
first_format_tests bytes =
    magic_test (codes "CSS") bytes
    ∷ version_test bytes
    ∷ first_format_bounds_test bytes
    ∷ digest_test (first_format_end bytes) bytes
    ∷ superblock_range_test bytes
    ∷ first_format_pointer_test bytes
    ∷ padding_test (first_format_end bytes + 32) bytes
    ∷ []

-- what is wrong with a page as a superblock of the first format
abbrev pub first_format_fault : List ℕ → Option FormatFault
first_format_fault bytes = first_fault (first_format_tests bytes)

-- The bytes are the spelling of this section in the first format, whose superblock is one section, of all extents,
-- and has no record. The store has the format in which what follows is written.
pub record IsOfFirstFormat (bytes : List ℕ) (format : Format) (version recorded extents pages sections section : ℕ) (written : List (ℕ × ℕ)) : Type 0 where
  pub spells : SpellsFirstFormat bytes version pages written
  pub written_in : format ≡ Two
  pub no_record : recorded ≡ 0
  pub all_extents : extents ≡ length written
  pub one_section : sections ≡ 1
  pub first_section : section ≡ 0

-- the bytes are the spelling of this section, in the store's format or in the first
abbrev pub SpellsPageZero : (bytes : List ℕ) (format : Format) (version recorded extents pages sections section : ℕ) (written : List (ℕ × ℕ)) → Type 0
SpellsPageZero bytes format version recorded extents pages sections section written =
    SpellsSuperblock bytes format version recorded extents pages sections section written
    ⊎ IsOfFirstFormat bytes format version recorded extents pages sections section written

-- the format whose tests of a section are made on page 0: 4 where the fourth byte is the digit 4
abbrev pub zero_format : List ℕ → FormatNumber
zero_format bytes = if slice_index bytes 3 == 52 then of_number.Four else of_number.Two

-- What is wrong with page 0: the tests of the first format where the fourth byte is the digit 1, else those of a
-- section.
abbrev pub page_zero_fault : List ℕ → Option FormatFault
page_zero_fault bytes = if slice_index bytes 3 == 49 then first_format_fault bytes else superblock_fault (zero_format bytes) bytes
