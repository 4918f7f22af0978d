-- A store as it is opened, of what was read.
use Rattle.std.specs.Prelude.{◌≡◌, ◌≢◌, ℕ, false, List, ◌∷◌, [], None, length, true}
use Rattle.cs_deps.specs.State.{State as GraphState}
use Rattle.cs_disk.specs.Disk.{Image, page}
use Rattle.cs_extent.specs.State.{IsWhole, State as ExtentsState, extents_at, extents_of, shape}
use Rattle.cs_reader.specs.Counts.{HasCount}
use Rattle.cs_reader.specs.Loads.{graph_at, index_at}
use Rattle.law_refinement.specs.Images.{AreExtentsNoted}
use Rattle.cs_index.specs.declared.stored_runs.StoredRun.{StoredRun}
use Rattle.cs_index.specs.State.{newest_first, State as IndexState}
use Rattle.law_machine.specs.Geometry.{most_weight_in, shape_of}
use Rattle.law_machine.specs.Index.{entries_of, live_at}
use Rattle.law_machine.specs.Device.{Page, Shape}
use Rattle.law_machine.specs.Element.{Map}
use Rattle.law_machine.specs.Format.{Format}
use Rattle.law_machine.specs.Recovery.{Recovers}
use Rattle.cs_reader.specs.Openings.{IsStoreReadBy}
use Rattle.cs_core.specs.Stored.{Stored}
use Rattle.law_refinement.specs.cs_reclaim.Rooted.{freed_under}
use Rattle.cs_frame.specs.Formats.{formats_of}
use Rattle.cs_frame.specs.Geometries.{IsGeometry, device_pages, section_size}

-- The extents of a store as it is opened, from those that were read, an index of the runs that were read, and this
-- version of the root: they are as they were read where chunks and runs may lie on one extent; where they lie apart it
-- is noted on which of them runs lie, and those on which nothing lives and no run lies are emptied under the root.
pub record AreExtentsOpened (x : ExtentsState) (i : IndexState) (root : ℕ) (y : ExtentsState) : Type 0 where
  pub same_shape : shape y ≡ shape x
  pub together : (shape x).apart ≡ false → y ≡ x
  pub apart : (shape x).apart ≡ true
      → (noted : ExtentsState) × IsWhole noted × AreExtentsNoted x i.runs noted × (extents_of y ≡ freed_under (shape noted) (extents_of noted) i [] root)

-- the store of these extents, of sections of a superblock with these versions, of a root and of its runs, oldest first,
-- on which nothing was staged yet
abbrev pub opened_stored : ExtentsState → (versions : List ℕ) → (root commands : ℕ) → List StoredRun → Stored
opened_stored x versions root commands runs = record {
  graph = graph_at versions root;
  extents = x;
  index = index_at (newest_first runs) x.format (most_weight_in x.format x.pages);
  copies = [];
  roots = record { version = root; commands = 0 } ∷ [];
  out = None;
  issued = 0;
  base = commands;
  accepted = 0;
  frontier = 0;
  halted = false;
}

-- Of extents as they were read, of runs, and of a graph a store is made: the extents are opened under the root.
pub record IsLoaded (x : ExtentsState) (g : GraphState) (root commands : ℕ) (runs : List StoredRun) (store : Stored) : Type 0 where
  pub extents : ExtentsState
  pub opened : AreExtentsOpened x (index_at (newest_first runs) x.format (most_weight_in x.format x.pages)) root extents
  pub made : (versions : List ℕ) → length versions ≡ x.sections → g ≡ graph_at versions root → store ≡ opened_stored extents versions root commands runs

-- A store is made of what was read, which an honest disk has: `found` tells the number of the root's commands.
pub record IsOpened (honest : Type 0) (image : Image) (found : ℕ × ℕ) (store : Stored) : Type 0 where
  pub format : Format
  pub versions : List ℕ
  pub records : List ℕ
  pub pages : ℕ
  pub written : List (ℕ × ℕ)
  pub root : ℕ
  pub runs : List StoredRun
  pub extents : ExtentsState
  pub opened : AreExtentsOpened (extents_at format pages (length versions) written) (index_at (newest_first runs) format (most_weight_in format pages)) root extents
  pub made : store ≡ opened_stored extents versions root found.0 runs
  pub read : honest → IsStoreReadBy (page image) format versions records pages written root found.0 runs

-- A store is made of sections of a superblock and of what was read after them, which an honest disk has. It has so many
-- commands, and so many live shards.
pub record IsStoreMade (honest : Type 0) (view : ℕ → List ℕ) (format : Format) (versions records : List ℕ) (pages : ℕ) (written : List (ℕ × ℕ)) (commands live : ℕ) (store : Stored) : Type 0 where
  pub root : ℕ
  pub runs : List StoredRun
  pub extents : ExtentsState
  pub opened : AreExtentsOpened (extents_at format pages (length versions) written) (index_at (newest_first runs) format (most_weight_in format pages)) root extents
  pub made : store ≡ opened_stored extents versions root commands runs
  pub counted : HasCount (λ id. live_at (entries_of (newest_first runs)) id ≢ []) live
  pub read : honest → IsStoreReadBy view format versions records pages written root commands runs

-- a device of so many pages holds a store of so many commands and so many live shards, and this store is made of it; if
-- the device is honest, its pages read as these
abbrev pub IsStoreFound : (honest : Type 0) → (count : ℕ) → (view : ℕ → List ℕ) → (commands live : ℕ) → Stored → Type 0
IsStoreFound honest count view commands live store = (format : Format) × (versions : List ℕ) × (records : List ℕ) × (pages : ℕ) × (written : List (ℕ × ℕ))
    × (count ≡ device_pages format (length written) pages (length versions)) × IsStoreMade honest view format versions records pages written commands live store

-- of whatever store a device of so many pages holds, which read as these: of its shape, its number of commands and its
-- map
abbrev pub IfStoreOn : (count : ℕ) → (view : ℕ → Page) → (Shape → ℕ → Map → Type 0) → Type 0
IfStoreOn count view P = (format : Format) (extents pages sections : ℕ) → IsGeometry format extents pages sections → count ≡ device_pages format extents pages sections
    → (n : ℕ) (m : Map) → (let S = shape_of extents pages sections (section_size extents sections) format in Recovers S (formats_of S) view n m → P S n m)

-- a store was opened as one of this shape, of n commands and of as many shards as the map has
abbrev pub IsOpenedAs : Shape → (n : ℕ) → Map → Stored → (found : ℕ × ℕ) → Type 0
IsOpenedAs S n m store found = (shape store.extents ≡ S) × (found.0 ≡ n) × HasCount (λ id. m id ≢ None) found.1
