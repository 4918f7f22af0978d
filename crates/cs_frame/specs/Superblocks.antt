-- The page of a section of a superblock, field by field, and the tests of its decoder in order, those of a format.
use Rattle.std.specs.Prelude.{◌≡◌, ℕ, ◌+◌, ◌*◌, ◌^◌, ◌<◌, ◌≤◌, ◌&&◌, Bool, List, [], ◌∷◌, ◌++◌, length, Option, codes, nat_lt, slice_index}
use Rattle.std.specs.List.{AllByRecursion}
use Rattle.byteorder.specs.Endian.{big_bytes}
use Rattle.law_machine.specs.Format.{Format, Four, Two}
use Rattle.cs_frame.specs.declared.faults.FormatFault.{FormatFault}
use Rattle.cs_frame.specs.declared.faults.FormatFault.TheVariants.{BadLength}
use Rattle.cs_frame.specs.declared.formats.FormatNumber.{FormatNumber}
use Rattle.cs_frame.specs.declared.formats.FormatNumber.TheVariants as of_number
use Rattle.cs_frame.specs.declared.superblocks.Superblock.{Superblock}
use Rattle.cs_frame.specs.Bytes.{field, number}
use Rattle.cs_frame.specs.Faults.{first_fault, unless}
use Rattle.cs_frame.specs.FormatNumbers.{number_in, section_digit}
use Rattle.cs_frame.specs.Geometries.{IsGeometry, greatest_extents, has_device, in_bounds, is_divided, section_length}
use Rattle.cs_frame.specs.Pages.{digest_test, digit_test, magic_test, padded, padding_test, sealed}
use Rattle.cs_frame.specs.Pointers.{FitsExtent, extents_from, pointers_test, spelled_extents, superblock_range_test}

-- the bytes in which a section records the version of the root that was persistent when it was staged: none in format 2
abbrev pub record_bytes : Format → ℕ
record_bytes Two = 0
record_bytes (Four store device) = 8

-- what a section records in a format where this version of the root is persistent: 0 where it has no bytes for it
abbrev pub record_in : Format → (root : ℕ) → ℕ
record_in Two root = 0
record_in (Four store device) root = root

-- the record fits its bytes: where there are none it is 0
abbrev pub FitsRecord : (format : Format) (recorded : ℕ) → Type 0
FitsRecord format recorded = recorded < 256 ^ record_bytes format

-- What a section says of its store and of the root. In format 2 it says nothing of them.
-- |  0 | 8  | the pages that the device had when the store was made   |
-- |  8 | 16 | the identity of the store                               |
-- | 24 | 8  | the record, the version of the root that was persistent |
abbrev pub spelled_store : (format : Format) (recorded : ℕ) → List ℕ
spelled_store Two recorded = []
spelled_store (Four store device) recorded = big_bytes 8 device ++ store ++ big_bytes 8 recorded

-- |  0     | 3     | CSS                                               |
-- |  3     | 1     | the digit of the format, 2 or 4                   |
-- |  4     | 8     | version                                           |
-- | 12     | 2     | E, the number of extents, all sections together   |
-- | 14     | 2     | P, the pages of an extent                         |
-- | 16     | 1     | S, the number of sections                         |
-- | 17     | 1     | j, which of them this is, from 0                  |
-- | 18     | r     | store and record: r is 32, and 0 in format 2      |
-- | 18 + r | 6 * m | pointer and generation of each of its m extents   |
abbrev pub superblock_fields : (format : Format) (version recorded extents pages sections section : ℕ) → List (ℕ × ℕ) → List ℕ
superblock_fields format version recorded extents pages sections section written =
    codes "CSS" ++ section_digit (number_in format) ∷ [] ++ big_bytes 8 version ++ big_bytes 2 extents ++ big_bytes 2 pages
    ++ sections ∷ [] ++ section ∷ [] ++ spelled_store format recorded ++ spelled_extents written

-- | 18 + r + 6 * m | 32 | digest of all bytes before |
-- | 50 + r + 6 * m |    | zeros to the end           |
abbrev pub spelled_superblock : (format : Format) (version recorded extents pages sections section : ℕ) → List (ℕ × ℕ) → List ℕ
spelled_superblock format version recorded extents pages sections section written =
    padded (sealed (superblock_fields format version recorded extents pages sections section written))

-- what has a spelling
pub record FitsSuperblock (format : Format) (version recorded extents pages sections section : ℕ) (written : List (ℕ × ℕ)) : Type 0 where
  pub first_version : 1 ≤ version
  pub last_version : version < 2 ^ 63
  pub recorded_fits : FitsRecord format recorded
  pub geometry : IsGeometry format extents pages sections
  pub one_of_them : section < sections
  pub count : length written ≡ section_length extents sections section
  pub each : AllByRecursion (FitsExtent pages) written

-- the bytes are the spelling of these
pub record SpellsSuperblock (bytes : List ℕ) (format : Format) (version recorded extents pages sections section : ℕ) (written : List (ℕ × ℕ)) : Type 0 where
  pub fits : FitsSuperblock format version recorded extents pages sections section written
  pub spelled : bytes ≡ spelled_superblock format version recorded extents pages sections section written

-- a section that can be spelled: what its type doesn't say of its numbers
pub record IsSuperblock (it : Superblock) : Type 0 where
  pub first_version : 1 ≤ it.version
  pub last_version : it.version < 2 ^ 63
  pub recorded_fits : FitsRecord it.format it.recorded
  pub geometry : IsGeometry it.format it.extent_count it.pages it.sections
  pub one_of_them : it.section < it.sections
  pub count : length it.extents.items ≡ section_length it.extent_count it.sections it.section
  pub pointers : AllByRecursion (λ extent. extent.0 ≤ it.pages) it.extents.items

-- these numbers are a section's that can be spelled: the types of the generations bound them
pub record IsSection (format : Format) (version recorded extents pages sections section : ℕ) (written : List (ℕ × ℕ)) : Type 0 where
  pub first_version : 1 ≤ version
  pub last_version : version < 2 ^ 63
  pub recorded_fits : FitsRecord format recorded
  pub geometry : IsGeometry format extents pages sections
  pub one_of_them : section < sections
  pub count : length written ≡ section_length extents sections section
  pub pointers : AllByRecursion (λ extent. extent.0 ≤ pages) written

-- the version, the number of extents and that of the pages of an extent, as the bytes spell them
abbrev pub superblock_version : List ℕ → ℕ
superblock_version bytes = number 4 12 bytes

abbrev pub extents_said : List ℕ → ℕ
extents_said bytes = number 12 14 bytes

abbrev pub pages_said : List ℕ → ℕ
pages_said bytes = number 14 16 bytes

-- how many extents a section has, by what its bytes say
abbrev pub section_count : List ℕ → ℕ
section_count bytes = section_length (extents_said bytes) (slice_index bytes 16) (slice_index bytes 17)

-- the format that the bytes name, where its number is this
abbrev pub format_in : FormatNumber → List ℕ → Format
format_in of_number.Two bytes = Two
format_in of_number.Four bytes = Four (field 26 42 bytes) (number 18 26 bytes)

-- where the extents begin, after the record
abbrev pub superblock_start : FormatNumber → ℕ
superblock_start of_number.Two = 18
superblock_start of_number.Four = 50

-- where the digest begins
abbrev pub superblock_end : FormatNumber → List ℕ → ℕ
superblock_end number bytes = superblock_start number + 6 * section_count bytes

-- the record, as the bytes spell it
abbrev pub superblock_record : FormatNumber → List ℕ → ℕ
superblock_record of_number.Two bytes = 0
superblock_record of_number.Four bytes = number 42 50 bytes

-- pointer and generation of each extent of the section, as its bytes spell them
abbrev pub superblock_extents : FormatNumber → List ℕ → List (ℕ × ℕ)
superblock_extents number bytes = extents_from (field (superblock_start number) (superblock_end number bytes) bytes)

-- So many extents of so many pages have a superblock of so many sections in this format, and this is one of them. The
-- device has room for them.
abbrev pub section_passes : (format : Format) (extents pages sections section : ℕ) → Bool
section_passes format extents pages sections section =
    in_bounds format (greatest_extents format) extents pages && is_divided format extents sections && nat_lt section sections
    && has_device format extents pages sections

-- so it is with the numbers that the bytes spell
abbrev pub section_test : FormatNumber → List ℕ → Option FormatFault
section_test number bytes = unless (section_passes (format_in number bytes) (extents_said bytes) (pages_said bytes)
    (slice_index bytes 16) (slice_index bytes 17)) BadLength

-- no pointer is past the extent's pages
abbrev pub superblock_pointer_test : FormatNumber → List ℕ → Option FormatFault
superblock_pointer_test number bytes = pointers_test (pages_said bytes) (superblock_extents number bytes)

-- the tests of a section in order
abbrev pub superblock_tests : FormatNumber → List ℕ → List (Option FormatFault)
superblock_tests number bytes =
    magic_test (codes "CSS") bytes
    ∷ digit_test (section_digit number) bytes
    ∷ section_test number bytes
    ∷ digest_test (superblock_end number bytes) bytes
    ∷ superblock_range_test bytes
    ∷ superblock_pointer_test number bytes
    ∷ padding_test (superblock_end number bytes + 32) bytes
    ∷ []

-- what is wrong with a page as a section of a store whose format has this number
abbrev pub superblock_fault : FormatNumber → List ℕ → Option FormatFault
superblock_fault number bytes = first_fault (superblock_tests number bytes)
