-- A store as it was read of an image: the sections of its superblock, its root, and its runs.
use Rattle.std.specs.Prelude.{ℕ, List, length}
use Rattle.cs_extent.specs.State.{State as ExtentsState, extents_at}
use Rattle.cs_frame.specs.Geometries.{device_pages}
use Rattle.cs_index.specs.declared.stored_runs.StoredRun.{StoredRun}
use Rattle.cs_index.specs.State.{State as IndexState, newest_first}
use Rattle.cs_deps.specs.State.{State as GraphState}
use Rattle.cs_reader.specs.ImageReads.{ArePages, AreSectionsRead, IsStoreRead, IsVisibleStoreRead}
use Rattle.cs_reader.specs.Loads.{graph_at, index_at}
use Rattle.law_machine.specs.Device.{Page}
use Rattle.law_machine.specs.Format.{Format}

-- What the sections and the root say.
pub record StoreRead : Type 0 where
  -- the format, and how many pages an extent has
  pub format : Format
  pub pages : ℕ
  -- of each section its version, and the version of the root that it records
  pub versions : List ℕ
  pub records : List ℕ
  -- of each extent its pointer and generation
  pub written : List (ℕ × ℕ)
  -- the version of the root, and how many commands it counts
  pub root : ℕ
  pub commands : ℕ

-- the extents that the sections record
abbrev pub extents_in : StoreRead → ExtentsState
extents_in read = extents_at read.format read.pages (length read.versions) read.written

-- the graph of a store with these versions, where nothing was staged
abbrev pub graph_in : StoreRead → GraphState
graph_in read = graph_at read.versions read.root

-- the index of these runs, with an empty table
abbrev pub index_in : StoreRead → List StoredRun → (limit : ℕ) → IndexState
index_in read runs limit = index_at (newest_first runs) read.format limit

-- each page of the device has 4,096 bytes
abbrev pub HasPages : (view : ℕ → Page) → StoreRead → Type 0
HasPages view read = ArePages (device_pages read.format (length read.written) read.pages (length read.versions)) view

-- the sections were read so
abbrev pub HasSections : (view : ℕ → Page) → StoreRead → Type 0
HasSections view read = AreSectionsRead view read.format read.versions read.records read.pages read.written

-- the whole store was read so, over these runs
abbrev pub IsRead : (view : ℕ → Page) → StoreRead → List StoredRun → Type 0
IsRead view read runs = IsStoreRead view read.format read.versions read.records read.pages read.written read.root read.commands runs

-- so it was, where an entry that a newer one hides may name what is gone
abbrev pub IsVisiblyRead : (view : ℕ → Page) → StoreRead → List StoredRun → Type 0
IsVisiblyRead view read runs =
    IsVisibleStoreRead view read.format read.versions read.records read.pages read.written read.root read.commands runs
