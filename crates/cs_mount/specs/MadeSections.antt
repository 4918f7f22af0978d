-- Sections of a superblock that are made from what the root and its runs name.
use Rattle.std.specs.Prelude.{◌≡◌, ◌≢◌, ◌⊎◌, Some, Option, ◌==◌, ◌&&◌, ◌||◌, ◌+◌, ◌-◌, ◌^◌, ◌<◌, ◌≤◌, ◌++◌, ℕ, zero, suc, Bool, true, false, not, List, [], ◌∷◌, MatchOption, length, map, max, nat_le, nat_lt, reverse, slice_get, slice_index_or, if◌then◌else◌}
use Rattle.std.specs.List.{AllByRecursion, list_all, list_any, range_with_len}
use Rattle.cs_disk.specs.Disk.{Image, Write, page}
use Rattle.cs_frame.specs.declared.formats.FormatNumber.TheVariants as of_number
use Rattle.cs_frame.specs.declared.locators.Locator.{Locator}
use Rattle.cs_frame.specs.declared.superblocks.Superblock.{Superblock}
use Rattle.cs_frame.specs.Formats.{as_locator, formats_of, place_of}
use Rattle.cs_frame.specs.Geometries.{Dimensions, section_length, section_start}
use Rattle.cs_frame.specs.Roots.{SpellsRoot, identity_in}
use Rattle.cs_frame.specs.Superblocks.{spelled_superblock, superblock_extents, superblock_record}
use Rattle.cs_index.specs.declared.stored_runs.StoredRun.{StoredRun}
use Rattle.cs_index.specs.State.{newest_first}
use Rattle.cs_twin.specs.declared.pairs.Pair.{Pair}
use Rattle.cs_twin.specs.Pairs.{half, is_turned, version_at}
use Rattle.law_machine.specs.Element.{Content, Damaged, Entry, Locator as Place, Map, Run}
use Rattle.law_machine.specs.Device.{Inside}
use Rattle.law_machine.specs.Formats.{RunFrame, Stand, places}
use Rattle.law_machine.specs.Index.{entries_of, live_at}
use Rattle.law_machine.specs.Lists.{◌∈◌}
use Rattle.law_machine.specs.Refusal.{Refusal}
use Rattle.cs_mount.specs.Makings.{pair_of_section}
use Rattle.cs_mount.specs.Showing.{shown_of}
use Rattle.cs_mount.specs.StorePairs.{dimensions_on, pages_of, store_pair, store_shape, store_version}

-- ---- what is named

-- one of these runs begins there, or a chunk of the newest entry of an identifier
abbrev pub IsNamed : List StoredRun → Locator → Type 0
IsNamed runs l = (l ∈ map (λ run. run.place) runs) ⊎ ((id : ℕ) × (place_of l ∈ live_at (entries_of (newest_first runs)) id))

-- These are the places that the runs name.
pub record AreNamed (runs : List StoredRun) (named : List Locator) : Type 0 where
  pub all : (l : Locator) → IsNamed runs l → l ∈ named
  pub only : (l : Locator) → l ∈ named → IsNamed runs l

-- A frame with this run stands at the run's place.
pub record StandsThere (d : Dimensions) (view : ℕ → List ℕ) (run : Run) : Type 0 where
  pub fits : (formats_of (store_shape d)).fits_run run.entries ≡ true
  pub extent : run.place.extent < d.extents
  pub inside : run.place.page + length ((formats_of (store_shape d)).frame RunFrame ((formats_of (store_shape d)).run run.entries)) ≤ d.pages
  pub stand : Stand (store_shape d) (formats_of (store_shape d)) view run.place.extent run.place.page ((formats_of (store_shape d)).frame RunFrame ((formats_of (store_shape d)).run run.entries))

-- At each of these places stands a run, and these are the places that the runs name.
pub record IsNamedBy (d : Dimensions) (view : ℕ → List ℕ) (places named : List Locator) : Type 0 where
  pub runs : List StoredRun
  pub listed : map (λ run. run.place) runs ≡ places
  pub read : AllByRecursion (StandsThere d view) (newest_first runs)
  pub are_named : AreNamed runs named

-- ---- a section that is made

-- Pointer and generation of an extent by the places that are named: it is full, in the generation of the first of them
-- that lies there. If none does it is empty.
abbrev pub made_row : (pages : ℕ) → List Locator → (extent : ℕ) → ℕ × ℕ
made_row pages [] e = (0, 0)
made_row pages (l ∷ named) e = if l.extent == e then (pages, l.generation) else made_row pages named e

-- those of each extent of a section
abbrev pub made_rows : Dimensions → List Locator → (section : ℕ) → List (ℕ × ℕ)
made_rows d named j = map (made_row d.pages named) (range_with_len (section_start d.extents d.sections j) (section_length d.extents d.sections j))

-- the page of the section: it records no root
unfoldable pub made_section : Dimensions → List Locator → (version section : ℕ) → List ℕ
made_section d named version j = spelled_superblock d.format version 0 d.extents d.pages d.sections j (made_rows d named j)

-- ---- which sections are lost

-- A frame at this place is in the extent's generation, and begins below its pointer.
abbrev pub has_place : (row : ℕ × ℕ) → Locator → Bool
has_place row l = (row.1 == l.generation) && nat_lt l.page row.0

-- These rows are of the extents from this one on. The place lies on none of them, or its frame is there.
abbrev pub is_there : (start : ℕ) → List (ℕ × ℕ) → Locator → Bool
is_there start rows l = not (nat_le start l.extent && nat_lt (l.extent - start) (length rows)) || has_place (slice_index_or rows (l.extent - start) (0, 0)) l

-- The place lies on one of these extents, in an earlier generation than the extent has: it was emptied since.
abbrev pub is_past : (start : ℕ) → List (ℕ × ℕ) → Locator → Bool
is_past start rows l = nat_le start l.extent && nat_lt (l.extent - start) (length rows) && nat_lt l.generation (slice_index_or rows (l.extent - start) (0, 0)).1

-- the pair of a section
abbrev pub section_pair : Dimensions → (section : ℕ) → Pair
section_pair d j = store_pair d (pair_of_section j)

-- the bytes of the half of a pair that shows
abbrev pub shown_half : Dimensions → Image → Pair → List ℕ
shown_half d image x = page image (half x (is_turned (store_version (Some d)) image x))

-- By a root of this version, and what is named, the rows of a section from this extent on need nothing, where it records
-- this root: all that is named on its extents is there. Or the root is of before: the section records a later one, or
-- emptied an extent since.
abbrev pub rows_serve : (root : ℕ) → List Locator → (start recorded : ℕ) → List (ℕ × ℕ) → Bool
rows_serve root named start recorded rows = nat_lt root recorded || list_all (is_there start rows) named || list_any (is_past start rows) named

-- The newest half of a section is whole, with this version and these bytes, and serves so.
abbrev pub serves : Dimensions → (root : ℕ) → List Locator → (section version : ℕ) → (bytes : List ℕ) → Bool
serves d root named j version bytes =
    nat_lt 0 version
    && rows_serve root named (section_start d.extents d.sections j) (superblock_record of_number.Four bytes) (superblock_extents of_number.Four bytes)

-- the halves of a pair that aren't whole, by their versions
abbrev pub halves_lost : Pair → (own twin : ℕ) → List ℕ
halves_lost x own twin = (if own == 0 then x.page ∷ [] else []) ++ (if twin == 0 then x.twin ∷ [] else [])

-- What is written in place of a section whose halves have these versions, the newest with these bytes. If it doesn't
-- serve, a section that is made, newer than both, is written to each half that isn't whole.
abbrev pub writes_by : Dimensions → (root : ℕ) → List Locator → (section own twin : ℕ) → (bytes : List ℕ) → List Write
writes_by d root named j own twin bytes =
    if serves d root named j (max own twin) bytes then []
    else map (λ p. (p, made_section d named (1 + max own twin) j)) (halves_lost (section_pair d j) own twin)

-- the version of the newest half of a section: 0 if none is whole
abbrev pub newest_version : Dimensions → Image → (section : ℕ) → ℕ
newest_version d image j = max (version_at (store_version (Some d)) image (section_pair d j) false) (version_at (store_version (Some d)) image (section_pair d j) true)

-- by what an image has: whether the section serves, and what is written
abbrev pub section_serves : Dimensions → Image → (root : ℕ) → List Locator → (section : ℕ) → Bool
section_serves d image root named j = serves d root named j (newest_version d image j) (shown_half d image (section_pair d j))

abbrev pub made_writes : Dimensions → Image → (root : ℕ) → List Locator → (section : ℕ) → List Write
made_writes d image root named j =
    writes_by d root named j (version_at (store_version (Some d)) image (section_pair d j) false) (version_at (store_version (Some d)) image (section_pair d j) true) (shown_half d image (section_pair d j))

-- so of the sections below this number
abbrev pub all_made : Dimensions → Image → (root : ℕ) → List Locator → (sections : ℕ) → List Write
all_made d image root named zero = []
all_made d image root named (suc j) = all_made d image root named j ++ made_writes d image root named j

-- By the root that shows, and the runs at its places, these are the writes.
pub record AreMade (d : Dimensions) (image : Image) (writes : List Write) : Type 0 where
  pub version : ℕ
  pub commands : ℕ
  pub places : List Locator
  pub root : SpellsRoot (shown_half d image (store_pair d 1)) (identity_in d.format) version commands places
  pub named : List Locator
  pub by_runs : IsNamedBy d (page image) places named
  pub made : writes ≡ all_made d image version named d.sections
  -- a section that doesn't serve has a next version
  pub fit : (j : ℕ) → j < d.sections → section_serves d image version named j ≡ false → 1 + newest_version d image j < 2 ^ 63

-- so of the store that is on a device of so many pages: nothing if none of format 4 is
abbrev pub AreMadeOn : (pages : ℕ) → Image → List Write → Type 0
AreMadeOn pages image writes = MatchOption (dimensions_on pages image) (writes ≡ []) (λ d. AreMade d image writes)

-- the places of runs, oldest first, as a root lists them
abbrev pub listed_places : List Run → List Locator
listed_places runs = map as_locator (reverse (places runs))

-- two images have the same pages of extents
abbrev pub HasFrames : Dimensions → (image view : ℕ → List ℕ) → Type 0
HasFrames d image view = (e i : ℕ) → Inside (store_shape d) e i → view ((store_shape d).address e i) ≡ image ((store_shape d).address e i)

-- This image has the root and the pages of extents that the other one shows. Its sections may be any.
pub record HasRoot (d : Dimensions) (image : Image) (view : ℕ → List ℕ) : Type 0 where
  pub root_page : view 1 ≡ page (shown_of d image) 1
  pub frames : HasFrames d (page (shown_of d image)) view

-- And it has the sections that the other one shows, but for those that are made.
pub record IsWithOthers (d : Dimensions) (image : Image) (root : ℕ) (named : List Locator) (view : ℕ → List ℕ) : Type 0 where
  pub rest : HasRoot d image view
  pub sections : (j : ℕ) → j < d.sections → made_writes d image root named j ≡ [] → view ((store_shape d).section_page j) ≡ page (shown_of d image) ((store_shape d).section_page j)

-- some section has the last version
abbrev pub IsOneWorn : Dimensions → Image → Type 0
IsOneWorn d image = (j : ℕ) × (j < d.sections) × (2 ^ 63 ≤ 1 + newest_version d image j)

-- no bytes of the shard are damaged
abbrev pub IsUnhurt : Option Content → Type 0
IsUnhurt v = (f : Refusal) → v ≢ Some (Damaged f)

-- Two maps have the same of each shard that isn't damaged in the first.
abbrev pub AgreeOnWhole : (m o : Map) → Type 0
AgreeOnWhole m o = (id : ℕ) → IsUnhurt (m id) → o id ≡ m id

-- each goes to a page of the store's device
abbrev pub IsInside : Dimensions → List Write → Type 0
IsInside d writes = AllByRecursion (λ w. w.0 < pages_of d) writes

-- ---- as they are made

-- This is section j, as it is made in this version.
pub record IsMadeSection (d : Dimensions) (named : List Locator) (made_version j : ℕ) (it : Superblock) : Type 0 where
  pub version : it.version ≡ made_version
  pub recorded : it.recorded ≡ 0
  pub format : it.format ≡ d.format
  pub extents : it.extent_count ≡ d.extents
  pub pages : it.pages ≡ d.pages
  pub sections : it.sections ≡ d.sections
  pub section : it.section ≡ j
  pub rows : it.extents.items ≡ made_rows d named j

-- These are the first so many sections, as they are made in version 1.
pub record AreMadeFrom (d : Dimensions) (named : List Locator) (count : ℕ) (sections : List Superblock) : Type 0 where
  pub size : length sections ≡ count
  pub each : (k : ℕ) (it : Superblock) → slice_get sections k ≡ Some it → IsMadeSection d named 1 k it

-- To these places those were added that an index has.
pub record AddsLive (index : List Entry) (places named : List Locator) : Type 0 where
  pub before : (l : Locator) → l ∈ places → l ∈ named
  pub live : (id : ℕ) (l : Place) → l ∈ live_at index id → as_locator l ∈ named
  pub only : (l : Locator) → l ∈ named → (l ∈ places) ⊎ ((id : ℕ) × (place_of l ∈ live_at index id))
