-- A store as it is made.
use Rattle.std.specs.Prelude.{All, ◌≡◌, ◌⊎◌, ◌+◌, ◌*◌, ◌<◌, ◌≤◌, ◌++◌, ◌==◌, ℕ, false, if◌then◌else◌, List, [], ◌∷◌, None, Some, length, replicate, slice_get}
use Rattle.cs_disk.specs.declared.disk.PageDisk.{Ghosts as PageDisk}
use Rattle.cs_disk.specs.Disk.{State as DiskState, Write, flushed, page, seen}
use Rattle.cs_extent.specs.Sections.{IsSectionAt}
use Rattle.cs_frame.specs.declared.superblocks.Superblock.{Superblock}
use Rattle.cs_frame.specs.Geometries.{IsGeometry, section_length, section_size}
use Rattle.cs_frame.specs.Roots.{SpellsRoot, identity_in}
use Rattle.cs_frame.specs.Superblocks.{SpellsSuperblock}
use Rattle.law_refinement.specs.Images.{AreNewSections}
use Rattle.cs_reader.specs.Loads.{graph_at}
use Rattle.cs_extent.specs.State.{extents_at}
use Rattle.law_machine.specs.Format.{Format}
use Rattle.law_machine.specs.Geometry.{most_weight_in, shape_of}
use Rattle.cs_core.specs.Stored.{Stored}

-- a store of this format, of so many extents of so many pages, and of so many sections of the superblock, on which
-- nothing was staged yet
abbrev pub new_stored : (format : Format) (extents pages sections : ℕ) → Stored
new_stored format extents pages sections = record {
  graph = graph_at (replicate sections 1) 1;
  extents = extents_at format pages sections (replicate extents (0, 0));
  index = record { table = []; runs = []; format = format; limit = most_weight_in format pages; room = 0 };
  copies = [];
  roots = record { version = 1; commands = 0 } ∷ [];
  out = None;
  issued = 0;
  base = 0;
  accepted = 0;
  frontier = 0;
  halted = false;
}

-- This is a section of a new store's superblock.
pub record IsNewSection (format : Format) (extents pages sections section : ℕ) (it : Superblock) : Type 0 where
  pub section_at : IsSectionAt format extents pages sections section it
  pub first : it.version ≡ 1
  -- no root was persistent yet
  pub unrecorded : it.recorded ≡ 0
  pub rows : it.extents.items ≡ replicate (section_length extents sections section) (0, 0)

-- These are its first sections, so many.
pub record AreFirstNew (format : Format) (extents pages sections count : ℕ) (items : List Superblock) : Type 0 where
  pub counted : length items ≡ count
  pub each : (k : ℕ) (it : Superblock) → slice_get items k ≡ Some it → IsNewSection format extents pages sections k it

-- These are all of its sections, in order.
pub record AreNew (format : Format) (extents pages sections : ℕ) (items : List Superblock) : Type 0 where
  pub geometry : IsGeometry format extents pages sections
  pub new_ones : AreFirstNew format extents pages sections sections items

-- a page that isn't one of an extent: it lies before all of them or behind all
abbrev pub IsHead : (extents pages : ℕ) → (number : ℕ) → Type 0
IsHead extents pages number = (number < 2) ⊎ (2 + extents * pages ≤ number)

-- Only pages of the superblock and of the root were written on the disk, none of an extent, and nothing was flushed.
pub record IsHeadWritten (extents pages : ℕ) (old new : DiskState) : Type 0 where
  pub writes : List Write
  pub head : All (λ (w : Write). IsHead extents pages w.0) writes
  pub volatile : new.volatile ≡ old.volatile ++ writes
  pub durable : new.durable ≡ old.durable

-- only such pages were written, and then all was flushed
abbrev pub IsFormatted : (extents pages : ℕ) → (old new : DiskState) → Type 0
IsFormatted extents pages old new = (between : DiskState) × IsHeadWritten extents pages old between × (new ≡ flushed between)

-- the page of section j of the superblock
abbrev pub head_page : (extents pages j : ℕ) → ℕ
head_page extents pages j = if j == 0 then 0 else 1 + extents * pages + j

-- the page spells section j of the superblock of a new store
abbrev pub SpellsNew : (format : Format) (extents pages sections j : ℕ) → List ℕ → Type 0
SpellsNew format extents pages sections j bytes = SpellsSuperblock bytes format 1 0 extents pages sections j (replicate (section_length extents sections j) (0, 0))

-- The pages of the first so many sections of a new store were written.
pub record AreNewWritten (format : Format) (extents pages sections count : ℕ) (old new : DiskState) : Type 0 where
  pub head : IsHeadWritten extents pages old new
  pub each : (j : ℕ) → j < count
      → SpellsNew format extents pages sections j (page (seen new) ((shape_of extents pages sections (section_size extents sections) format).section_page j))

-- A disk takes what is written of a new store: the sections of its superblock, from this one on, and its root.
pub record TakesNew {D : Type 0} (disks : PageDisk D) (format : Format) (extents pages sections first : ℕ) (disk : D) : Type 0 where
  pub of_section : (j : ℕ) (bytes : List ℕ) → first ≤ j → j < sections → SpellsNew format extents pages sections j bytes → disks.takes disk (head_page extents pages j) bytes
  pub of_root : (bytes : List ℕ) → SpellsRoot bytes (identity_in format) 1 0 [] → disks.takes disk 1 bytes

-- A new store was written and made durable: the sections of its superblock, and its root.
pub record IsNewOn (format : Format) (extents pages sections : ℕ) (old new : DiskState) : Type 0 where
  pub formatted : IsFormatted extents pages old new
  pub superblock : AreNewSections (page new.durable) format extents pages sections
  pub root : SpellsRoot (page new.durable 1) (identity_in format) 1 0 []
