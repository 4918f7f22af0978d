-- The dimensions of a store, the bounds of them, and which extents a section of its superblock has. A bound is that
-- of a format.
use Rattle.law_machine.specs.Format.{Format, Four, Two}
use Rattle.std.specs.Prelude.{◌≡◌, ℕ, zero, suc, ◌+◌, ◌-◌, ◌*◌, ◌/◌, ◌^◌, ◌<◌, ◌≤◌, ◌&&◌, min, Bool, true, List, length, nat_le, nat_lt, ⊤}
use Rattle.cs_frame.specs.Bytes.{IsBytes}

-- an identity has 16 bytes
pub record IsIdentity (store : List ℕ) : Type 0 where
  pub size : length store ≡ 16
  pub bytes : IsBytes store

-- what a format says fits its fields on a page: the identity, and the pages of the device
abbrev pub FitsFormat : Format → Type 0
FitsFormat Two = ⊤
FitsFormat (Four store device) = IsIdentity store × (device < 2 ^ 64)

-- the least number of extents of a store
abbrev pub least_extents : Format → ℕ
least_extents Two = 4
least_extents (Four store device) = 5

-- the greatest number of extents of a store
abbrev pub greatest_extents : Format → ℕ
greatest_extents Two = 2048
greatest_extents (Four store device) = 7680

-- the greatest number of extents of a section
abbrev pub greatest_section_extents : ℕ
greatest_section_extents = 512

-- the greatest number of extents of a superblock of the first format
abbrev pub greatest_superblock_extents : ℕ
greatest_superblock_extents = 512

-- the greatest number of sections of a superblock
abbrev pub greatest_sections : Format → ℕ
greatest_sections Two = 8
greatest_sections (Four store device) = 15

-- the least number of pages of an extent
abbrev pub least_pages : ℕ
least_pages = 2

-- the greatest number of pages of an extent
abbrev pub greatest_pages : Format → ℕ
greatest_pages Two = 256
greatest_pages (Four store device) = 65535

-- which format the store has, how many extents there are, how many pages each has, and how many sections the
-- superblock has
pub record Dimensions : Type 0 where
  pub format : Format
  pub extents : ℕ
  pub pages : ℕ
  pub sections : ℕ

-- the extents of a section: so many as are needed where all sections but the last have as many
abbrev pub section_size : (extents sections : ℕ) → ℕ
section_size extents sections = (extents + (sections - 1)) / sections

-- the first extent of a section
abbrev pub section_start : (extents sections section : ℕ) → ℕ
section_start extents sections section = section * section_size extents sections

-- how many extents a section has: what is left, where that is less
abbrev pub section_length : (extents sections section : ℕ) → ℕ
section_length extents sections section = min (section_size extents sections) (extents - section_start extents sections section)

-- how many extents the sections before this one have together
abbrev pub lengths_below : (extents sections section : ℕ) → ℕ
lengths_below extents sections zero = 0
lengths_below extents sections (suc section) = lengths_below extents sections section + section_length extents sections section

-- The pages of a file that is made for a store of format 4: those of the extents, the root and the sections. At the end
-- are a second copy of the root and of each section.
abbrev pub file_pages : (extents pages sections : ℕ) → ℕ
file_pages extents pages sections = 2 + extents * pages + 2 * sections

-- the device has room for the store, where the format says how many pages it has
abbrev pub FitsDevice : Format → (extents pages sections : ℕ) → Type 0
FitsDevice Two extents pages sections = ⊤
FitsDevice (Four store device) extents pages sections = file_pages extents pages sections ≤ device

-- There is a store of these dimensions: none of its superblock's sections is empty, and none has more extents than a
-- page has room for.
pub record IsGeometry (format : Format) (extents pages sections : ℕ) : Type 0 where
  pub fits_format : FitsFormat format
  pub fewest_extents : least_extents format ≤ extents
  pub most_extents : extents ≤ greatest_extents format
  pub fewest_pages : least_pages ≤ pages
  pub most_pages : pages ≤ greatest_pages format
  pub fewest_sections : 1 ≤ sections
  pub most_sections : sections ≤ greatest_sections format
  pub section_fits : section_size extents sections ≤ greatest_section_extents
  pub none_empty : section_start extents sections (sections - 1) < extents
  pub fits_device : FitsDevice format extents pages sections

-- as few sections as there may be
abbrev pub sections_needed : (extents : ℕ) → ℕ
sections_needed extents = (extents + (greatest_section_extents - 1)) / greatest_section_extents

-- The pages of the device. In format 4 these are as many as it had when the store was made. In format 2 they are those
-- of the extents, of the sections and of the root.
abbrev pub device_pages : Format → (extents pages sections : ℕ) → ℕ
device_pages Two extents pages sections = 1 + extents * pages + sections
device_pages (Four store device) extents pages sections = device

-- the bytes of a run of so many entries: a count of 4 bytes, and 81 for each entry
abbrev pub run_bytes : (entries : ℕ) → ℕ
run_bytes entries = 4 + 81 * entries

-- The bytes of a run whose entries weigh so much. In format 4 these are eight of the store's identity, four of the
-- count, and what the entries weigh. In format 2 each entry weighs one.
abbrev pub weight_bytes : Format → (weight : ℕ) → ℕ
weight_bytes Two weight = run_bytes weight
weight_bytes (Four store device) weight = 12 + weight

-- so many extents of so many pages, where the greatest number of extents is this
abbrev pub in_bounds : Format → (greatest extents pages : ℕ) → Bool
in_bounds format greatest extents pages =
    nat_le (least_extents format) extents && nat_le extents greatest && nat_le least_pages pages && nat_le pages (greatest_pages format)

-- so many sections have so many extents, none too many, and the last of them some
abbrev pub is_divided : Format → (extents sections : ℕ) → Bool
is_divided format extents sections =
    nat_le 1 sections && nat_le sections (greatest_sections format)
    && nat_le (section_size extents sections) greatest_section_extents && nat_lt (section_start extents sections (sections - 1)) extents

-- the device has room for the store
abbrev pub has_device : Format → (extents pages sections : ℕ) → Bool
has_device Two extents pages sections = true
has_device (Four store device) extents pages sections = nat_le (file_pages extents pages sections) device

-- the format of a store that is made in a file as large as it needs
abbrev pub file_format : (store : List ℕ) → (extents pages sections : ℕ) → Format
file_format store extents pages sections = Four store (file_pages extents pages sections)
