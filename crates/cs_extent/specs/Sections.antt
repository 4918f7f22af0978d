-- The sections of a superblock, of which a store's extents are read.
use Rattle.std.specs.Prelude.{◌≡◌, ℕ, ◌<◌, List, [], ◌∷◌, Some, length, flat_map, slice_get}
use Rattle.law_machine.specs.Format.{Format, Two}
use Rattle.cs_frame.specs.declared.superblocks.Superblock.{Superblock}
use Rattle.cs_frame.specs.Superblocks.{IsSuperblock}

-- what they record of their extents, one list behind the other
abbrev pub rows_of : List Superblock → List (ℕ × ℕ)
rows_of sections = flat_map (λ it. it.extents.items) sections

-- the format of the store, as the first of them says
abbrev pub format_of : List Superblock → Format
format_of [] = Two
format_of (it ∷ sections) = it.format

-- the pages of an extent, as the first of them says
abbrev pub pages_of : List Superblock → ℕ
pages_of [] = 0
pages_of (it ∷ sections) = it.pages

-- the extents of the store, as the first of them says
abbrev pub count_of : List Superblock → ℕ
count_of [] = 0
count_of (it ∷ sections) = it.extent_count

-- this is section k of a superblock of so many sections, of a store of this format and of so many extents and pages
pub record IsSectionAt (format : Format) (extents pages sections k : ℕ) (it : Superblock) : Type 0 where
  pub is : IsSuperblock it
  pub of_format : it.format ≡ format
  pub of_extents : it.extent_count ≡ extents
  pub of_pages : it.pages ≡ pages
  pub of_sections : it.sections ≡ sections
  pub place : it.section ≡ k

-- these are all sections of a superblock, in order
pub record AreSections (sections : List Superblock) : Type 0 where
  pub some : 0 < length sections
  pub each : (k : ℕ) (it : Superblock) → slice_get sections k ≡ Some it
      → IsSectionAt (format_of sections) (count_of sections) (pages_of sections) (length sections) k it
