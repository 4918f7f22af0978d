-- What is read of an image as a store is opened: the sections of the superblock, the root, and its runs one after another.
use Rattle.std.specs.Prelude.{◌≡◌, ◌<◌, ◌≤◌, ℕ, zero, suc, List, length, map, slice_index, take}
use Rattle.std.specs.List.{AllByRecursion}
use Rattle.cs_chunk.specs.Chunks.{IsFrameIn}
use Rattle.cs_extent.specs.State.{State as ExtentsState, extents_at, extents_of, section_rows, shape}
use Rattle.cs_frame.specs.declared.locators.Locator.{Locator}
use Rattle.cs_frame.specs.Bytes.{IsPage}
use Rattle.cs_frame.specs.FirstFormat.{SpellsPageZero}
use Rattle.cs_frame.specs.Formats.{as_locator}
use Rattle.cs_frame.specs.Geometries.{IsGeometry, device_pages}
use Rattle.cs_frame.specs.Roots.{SpellsRoot, identity_in}
use Rattle.cs_frame.specs.FormatRuns.{SpellsRun}
use Rattle.cs_frame.specs.Runs.{Entry, entries_of as spelled_entries}
use Rattle.cs_frame.specs.Superblocks.{SpellsSuperblock}
use Rattle.cs_index.specs.declared.stored_runs.StoredRun.{StoredRun}
use Rattle.cs_index.specs.State.{newest_first}
use Rattle.law_machine.specs.Device.{Shape}
use Rattle.law_machine.specs.Element.{Locator as Place}
use Rattle.law_machine.specs.Format.{Format}
use Rattle.law_machine.specs.Formats.{RunFrame}
use Rattle.law_machine.specs.Geometry.{most_weight_in, weigh_in}
use Rattle.law_machine.specs.Index.{entries_of, live_at, named_weight}
use Rattle.law_machine.specs.Lists.{◌∈◌}

-- the bytes of section j's page spell it so, of a store of this format: those of page 0, which has section 0, maybe in the first format
abbrev pub SpellsAt : (j : ℕ) → (bytes : List ℕ) → (format : Format) (version recorded extents pages sections : ℕ) → (rows : List (ℕ × ℕ)) → Type 0
SpellsAt zero bytes format version recorded extents pages sections rows = SpellsPageZero bytes format version recorded extents pages sections 0 rows
SpellsAt (suc j) bytes format version recorded extents pages sections rows = SpellsSuperblock bytes format version recorded extents pages sections (suc j) rows

-- Each section of a store of this format was read from its page, of one of these versions each, and records one of these versions of the
-- root. Together they record these extents.
pub record AreSectionsRead (view : ℕ → List ℕ) (format : Format) (versions records : List ℕ) (pages : ℕ) (written : List (ℕ × ℕ)) : Type 0 where
  pub geometry : IsGeometry format (length written) pages (length versions)
  pub each : (j : ℕ) → j < length versions
      → SpellsAt j (view ((shape (extents_at format pages (length versions) written)).section_page j)) format (slice_index versions j) (slice_index records j)
      (length written) pages (length versions) (section_rows (extents_at format pages (length versions) written) j)

-- how many pages the device has: as many as it had when the store was made. In format 2 these are the root's, those of
-- the extents, and one for each section of the superblock.
abbrev pub page_total : Shape → ℕ
page_total S = device_pages S.format S.extents S.pages S.sections

-- the first `count` pages have 4,096 bytes each
abbrev pub ArePages : (count : ℕ) → (view : ℕ → List ℕ) → Type 0
ArePages count view = (p : ℕ) → p < count → IsPage (view p)

-- The extent of a locator exists, is in the locator's generation, and has its page below the pointer.
pub record IsLocated (x : ExtentsState) (l : Locator) : Type 0 where
  pub extent : l.extent < (shape x).extents
  pub generation : (extents_of x).generation l.extent ≡ l.generation
  pub page : l.page < (extents_of x).pointer l.extent

-- A frame at this place has a run with these entries.
pub record HasRunAt (x : ExtentsState) (view : ℕ → List ℕ) (place : Locator) (entries : List Entry) : Type 0 where
  pub located : IsLocated x place
  pub payload : List ℕ
  pub frame : IsFrameIn x view RunFrame place payload
  pub spelled : SpellsRun payload x.format entries

-- a frame at this place has a run
abbrev pub IsReadable : ExtentsState → (view : ℕ → List ℕ) → Locator → Type 0
IsReadable x view place = (entries : List Entry) × HasRunAt x view place entries

-- the run was read where its place says
abbrev pub IsRunRead : ExtentsState → (view : ℕ → List ℕ) → StoredRun → Type 0
IsRunRead x view run = HasRunAt x view run.place (spelled_entries run.entries.items)

-- The runs at the first of these places were read, oldest first.
pub record AreRunsRead (x : ExtentsState) (view : ℕ → List ℕ) (places : List Locator) (runs : List StoredRun) : Type 0 where
  pub listed : map (λ run. run.place) runs ≡ take (length runs) places
  pub each : AllByRecursion (IsRunRead x view) runs

-- each locator of each entry of these runs is located, also of an entry that a later run hides
abbrev pub AreLocated : ExtentsState → List StoredRun → Type 0
AreLocated x runs = AllByRecursion (λ run. AllByRecursion (λ entry. AllByRecursion (IsLocated x) entry.1.items) run.entries.items) runs

-- each locator of the newest entry of each identifier is located; an entry that a newer one hides may name what is gone
abbrev pub AreVisibleLocated : ExtentsState → List StoredRun → Type 0
AreVisibleLocated x runs = (id : ℕ) (l : Place) → l ∈ live_at (entries_of (newest_first runs)) id → IsLocated x (as_locator l)

-- A whole store of this format was read: sections of a superblock with these versions and extents, a root of no lesser version than one
-- that they record, over runs, which are all read, whose entries are all located, and the newest of which weigh no more than those of one
-- run may.
pub record IsStoreRead (view : ℕ → List ℕ) (format : Format) (versions records : List ℕ) (pages : ℕ) (written : List (ℕ × ℕ)) (root commands : ℕ)
    (runs : List StoredRun) : Type 0 where
  pub sections : AreSectionsRead view format versions records pages written
  pub recorded_fit : (j : ℕ) → j < length versions → slice_index records j ≤ root
  pub root_page : SpellsRoot (view 1) (identity_in format) root commands (map (λ run. run.place) runs)
  pub runs_read : AllByRecursion (IsRunRead (extents_at format pages (length versions) written) view) runs
  pub located : AreLocated (extents_at format pages (length versions) written) runs
  pub weight_fits : named_weight (weigh_in format) (entries_of (newest_first runs)) ≤ most_weight_in format pages

-- The same, where an entry that a newer one hides may name what is gone.
pub record IsVisibleStoreRead (view : ℕ → List ℕ) (format : Format) (versions records : List ℕ) (pages : ℕ) (written : List (ℕ × ℕ)) (root commands : ℕ)
    (runs : List StoredRun) : Type 0 where
  pub sections : AreSectionsRead view format versions records pages written
  pub recorded_fit : (j : ℕ) → j < length versions → slice_index records j ≤ root
  pub root_page : SpellsRoot (view 1) (identity_in format) root commands (map (λ run. run.place) runs)
  pub runs_read : AllByRecursion (IsRunRead (extents_at format pages (length versions) written) view) runs
  pub located : AreVisibleLocated (extents_at format pages (length versions) written) runs
  pub weight_fits : named_weight (weigh_in format) (entries_of (newest_first runs)) ≤ most_weight_in format pages
