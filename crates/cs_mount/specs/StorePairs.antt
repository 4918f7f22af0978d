-- The pairs of a store: which pages they are, and when one of them is whole.
use Rattle.std.specs.Prelude.{◌≢◌, ◌==◌, ◌&&◌, ◌+◌, ◌-◌, ◌*◌, ℕ, Bool, true, List, [], Option, Some, None, bytes_eq, if◌then◌else◌, map, nat_lt, replicate, slice_index}
use Rattle.std.specs.List.{range_with_len}
use Rattle.cs_disk.specs.Disk.{Image, State, page}
use Rattle.cs_frame.specs.Bytes.{field, number}
use Rattle.cs_frame.specs.declared.faults.FormatFault.{FormatFault}
use Rattle.cs_frame.specs.declared.formats.FormatNumber.TheVariants as of_number
use Rattle.cs_frame.specs.FirstFormat.{page_zero_fault}
use Rattle.cs_frame.specs.FormatNumbers.{number_in}
use Rattle.cs_frame.specs.Geometries.{Dimensions, device_pages, section_size}
use Rattle.cs_frame.specs.Roots.{root_fault}
use Rattle.cs_frame.specs.Superblocks.{format_in, superblock_fault}
use Rattle.cs_frame.specs.declared.superblocks.Superblock.{Superblock}
use Rattle.cs_reader.specs.Openings.{SpellsFirst}
use Rattle.law_machine.specs.Device.{Shape}
use Rattle.law_machine.specs.Format.{Format, Four, Two}
use Rattle.law_machine.specs.Geometry.{shape_of, twins_in}
use Rattle.cs_mount.specs.Identities.{stores_on}
use Rattle.cs_twin.specs.declared.pairs.Pair.{Pair}

-- the pages of the device of a store
abbrev pub pages_of : Dimensions → ℕ
pages_of d = device_pages d.format d.extents d.pages d.sections

-- the disk of a store before it is made: zeros, all of them durable
abbrev pub blank_disk : Dimensions → State
blank_disk d = record { durable = replicate (pages_of d) (replicate 4096 0); volatile = [] }

-- The pairs of a store count from 0: that of section 0, that of the root, and those of the other sections. Their
-- twins are the last pages of the device, from the very last on downwards.
abbrev pub store_pair : Dimensions → (k : ℕ) → Pair
store_pair d k = record { page = if nat_lt k 2 then k else d.extents * d.pages + k; twin = pages_of d - (1 + k) }

-- all of them: none in format 2
abbrev pub store_pairs : Dimensions → List Pair
store_pairs d = if twins_in d.format then map (store_pair d) (range_with_len 0 (1 + d.sections)) else []

-- where everything of a store lies, and its limits
abbrev pub store_shape : Dimensions → Shape
store_shape d = shape_of d.extents d.pages d.sections (section_size d.extents d.sections) d.format

-- a number that counts where there is no fault
abbrev pub without_fault : Option FormatFault → ℕ → ℕ
without_fault None n = n
without_fault (Some fault) n = 0

-- the identity in a root's page is that of the store
abbrev pub is_root : Format → List ℕ → Bool
is_root Two bytes = true
is_root (Four store device) bytes = bytes_eq (field 20 36 bytes) store

-- the version of the store's root that bytes spell
abbrev pub root_version : Format → List ℕ → ℕ
root_version format bytes = if is_root format bytes then without_fault (root_fault (number_in format) bytes) (number 4 12 bytes) else 0

-- the identity in a section's page is that of the store, and so is the number of the device's pages
abbrev pub is_of_store : Format → List ℕ → Bool
is_of_store Two bytes = true
is_of_store (Four store device) bytes = bytes_eq (field 26 42 bytes) store && number 18 26 bytes == device

-- the page of a section is one of this store, and its numbers are those of this section of these dimensions
abbrev pub is_section : Dimensions → (section : ℕ) → List ℕ → Bool
is_section d j bytes =
    is_of_store d.format bytes && number 12 14 bytes == d.extents && number 14 16 bytes == d.pages && slice_index bytes 16 == d.sections
    && slice_index bytes 17 == j

-- the version of this section that bytes spell
abbrev pub section_version : Dimensions → (section : ℕ) → List ℕ → ℕ
section_version d j bytes = if is_section d j bytes then without_fault (superblock_fault (number_in d.format) bytes) (number 4 12 bytes) else 0

-- which section a page holds
abbrev pub section_at : Dimensions → (page : ℕ) → ℕ
section_at d p = if p == 0 then 0 else p - (1 + d.extents * d.pages)

-- the version that bytes spell as what a page of a store holds: page 1 the root, another one its section
abbrev pub store_version : Option Dimensions → (page : ℕ) → List ℕ → ℕ
store_version None p bytes = 0
store_version (Some d) p bytes = if p == 1 then root_version d.format bytes else section_version d (section_at d p) bytes

-- the dimensions of the store whose section of these numbers is the first, where the device has its pages: none in
-- format 2
abbrev pub geometry_of_first : (pages : ℕ) → Format → (extents extent_pages sections section : ℕ) → Option Dimensions
geometry_of_first pages format extents extent_pages sections section =
    if twins_in format && section == 0 && device_pages format extents extent_pages sections == pages
    then Some (record { format = format; extents = extents; pages = extent_pages; sections = sections }) else None

-- those that a section's page says in format 4
abbrev pub named_by : (pages : ℕ) → List ℕ → Option Dimensions
named_by pages bytes = geometry_of_first pages (format_in of_number.Four bytes) (number 12 14 bytes) (number 14 16 bytes) (slice_index bytes 16) (slice_index bytes 17)

-- page 0 spells this section of a superblock, of whatever format; or no section, and isn't whole
abbrev pub IsOnPageZero : List ℕ → Option Superblock → Type 0
IsOnPageZero bytes None = page_zero_fault bytes ≢ None
IsOnPageZero bytes (Some it) = SpellsFirst bytes it

-- what the last page says, where it is whole in format 4
abbrev pub last_says : (pages : ℕ) → Option FormatFault → List ℕ → Option Dimensions
last_says pages None bytes = named_by pages bytes
last_says pages (Some fault) bytes = None

-- the dimensions of the store whose first section these bytes spell in format 4, where the device has its pages
abbrev pub first_says : (pages : ℕ) → List ℕ → Option Dimensions
first_says pages bytes = last_says pages (superblock_fault of_number.Four bytes) bytes

-- what page 0 says, where it has no fault, and else what the last page says
abbrev pub zero_or_last : (pages : ℕ) → (fault : Option FormatFault) → (zero : List ℕ) → (last : Option Dimensions) → Option Dimensions
zero_or_last pages None zero last = if slice_index zero 3 == 52 then named_by pages zero else None
zero_or_last pages (Some fault) zero last = last

-- the dimensions that page 0 says, where it is whole in whatever format, and else those that the last page says; there
-- are none of a store of format 2
abbrev pub said_on : (pages : ℕ) → Image → Option Dimensions
said_on pages image =
    zero_or_last pages (page_zero_fault (page image 0)) (page image 0) (first_says pages (page image (pages - 1)))

-- the dimensions that are said, unless the two pages are of different stores
abbrev pub unless_two : Option (List ℕ × List ℕ) → Option Dimensions → Option Dimensions
unless_two None said = said
unless_two (Some both) said = None

-- The dimensions of the store on a device whose pages lie in pairs: those that are said. There are none where page 0
-- and the last page are of different stores, and none of a store of format 2.
abbrev pub dimensions_on : (pages : ℕ) → Image → Option Dimensions
dimensions_on pages image = unless_two (stores_on pages image) (said_on pages image)

-- the pairs of a store where there is one
abbrev pub pairs_where : Option Dimensions → List Pair
pairs_where None = []
pairs_where (Some d) = store_pairs d
