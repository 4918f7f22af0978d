-- What is read as a store is opened, and why none is.
use Rattle.std.specs.Prelude.{◌≡◌, ◌≢◌, ◌⊎◌, ◌+◌, ◌*◌, ◌<◌, ◌≤◌, ℕ, true, false, List, Option, Some, length, map, slice_get, slice_index}
use Rattle.std.specs.List.{AllByRecursion}
use Rattle.cs_chunk.specs.Chunks.{IsFrameIn}
use Rattle.cs_chunk.specs.Reads.{IsNoAnswer, IsOfFault, fault_in}
use Rattle.cs_refusal.specs.declared.refusals.Refusal.{Refusal}
use Rattle.cs_refusal.specs.declared.refusals.Refusal.TheVariants.{NotAStore, RootLost}
use Rattle.cs_refusal.specs.Refusals.{number_of}
use Rattle.cs_extent.specs.State.{State as ExtentsState, extents_at, shape}
use Rattle.cs_frame.specs.declared.frames.FrameKind.TheVariants.{Run}
use Rattle.cs_frame.specs.declared.locators.Locator.{Locator}
use Rattle.cs_frame.specs.declared.superblocks.Superblock.{Superblock}
use Rattle.cs_frame.specs.FirstFormat.{SpellsPageZero, page_zero_fault}
use Rattle.cs_frame.specs.FormatRuns.{run_fault}
use Rattle.cs_frame.specs.Formats.{as_locator}
use Rattle.cs_frame.specs.FormatNumbers.{number_in}
use Rattle.cs_frame.specs.Geometries.{device_pages}
use Rattle.cs_frame.specs.Roots.{SpellsRoot, identity_in, root_fault, root_number}
use Rattle.cs_frame.specs.Superblocks.{SpellsSuperblock, superblock_fault}
use Rattle.cs_reader.specs.ImageReads.{AreLocated, AreRunsRead, AreSectionsRead, AreVisibleLocated, IsLocated, IsRunRead, IsStoreRead, IsVisibleStoreRead}
use Rattle.cs_index.specs.declared.stored_runs.StoredRun.{StoredRun}
use Rattle.cs_index.specs.State.{newest_first}
use Rattle.law_machine.specs.Element.{Entry, Locator as Place}
use Rattle.law_machine.specs.Format.{Format}
use Rattle.law_machine.specs.Formats.{RunFrame}
use Rattle.law_machine.specs.Index.{entries_of, live_at, named_weight}
use Rattle.law_machine.specs.Lists.{◌∈◌}

-- A whole store of this format was read: where hidden entries stand what all entries name is there, else what the newest entry of each
-- identifier names.
pub record IsStoreReadBy (view : ℕ → List ℕ) (format : Format) (versions records : List ℕ) (pages : ℕ) (written : List (ℕ × ℕ)) (root commands : ℕ) (runs : List StoredRun) : Type 0 where
  pub whole : (shape (extents_at format pages (length versions) written)).hidden_stand ≡ true → IsStoreRead view format versions records pages written root commands runs
  pub visible : (shape (extents_at format pages (length versions) written)).hidden_stand ≡ false → IsVisibleStoreRead view format versions records pages written root commands runs

-- the bytes spell this section of a superblock as those of page 0 do, maybe in the first format
abbrev pub SpellsFirst : (bytes : List ℕ) → Superblock → Type 0
SpellsFirst bytes it = SpellsPageZero bytes it.format it.version it.recorded it.extent_count it.pages it.sections it.section it.extents.items

-- the bytes spell this section of a superblock as those of a page after the extents do
abbrev pub SpellsFurther : (bytes : List ℕ) → Superblock → Type 0
SpellsFurther bytes it = SpellsSuperblock bytes it.format it.version it.recorded it.extent_count it.pages it.sections it.section it.extents.items

-- Page 0 spells section 0 of a superblock of this format and of so many extents, pages and sections, with which the device has its pages.
pub record IsFirstRead (count : ℕ) (view : ℕ → List ℕ) (format : Format) (extents pages sections : ℕ) : Type 0 where
  pub version : ℕ
  pub recorded : ℕ
  pub rows : List (ℕ × ℕ)
  pub superblock : SpellsPageZero (view 0) format version recorded extents pages sections 0 rows
  pub sized : count ≡ device_pages format extents pages sections

-- The page of a further section spells it.
pub record IsSectionThere (view : ℕ → List ℕ) (format : Format) (extents pages sections section : ℕ) : Type 0 where
  pub version : ℕ
  pub recorded : ℕ
  pub rows : List (ℕ × ℕ)
  pub superblock : SpellsSuperblock (view (1 + extents * pages + section)) format version recorded extents pages sections section rows

-- The pages of all sections spell these extents and what each records of the root, and with these the device has its pages.
pub record AreExtentsRead (count : ℕ) (view : ℕ → List ℕ) (format : Format) (versions records : List ℕ) (pages : ℕ) (written : List (ℕ × ℕ)) : Type 0 where
  pub sections : AreSectionsRead view format versions records pages written
  pub sized : count ≡ device_pages format (length written) pages (length versions)

-- And page 1 spells a root over runs at these places.
pub record IsRootRead (count : ℕ) (view : ℕ → List ℕ) (format : Format) (versions records : List ℕ) (pages : ℕ) (written : List (ℕ × ℕ)) (places : List Locator) : Type 0 where
  pub extents : AreExtentsRead count view format versions records pages written
  pub version : ℕ
  pub commands : ℕ
  pub root : SpellsRoot (view 1) (identity_in format) version commands places

-- each of so many sections records a root of this version at most, as far as it records one
abbrev pub AreRecordedBy : (sections : ℕ) (records : List ℕ) (version : ℕ) → Type 0
AreRecordedBy sections records version = (j : ℕ) → j < sections → slice_index records j ≤ version

-- ---- the tests of an opening in their order, each of which says what the ones before it found

-- The device has fewer pages than any store.
pub record IsTooSmall (count : ℕ) (r : Refusal) : Type 0 where
  pub small : count < 10
  pub refusal : r ≡ NotAStore

-- Page 0 has this fault.
pub record IsSuperblockDamaged (count : ℕ) (view : ℕ → List ℕ) (r : Refusal) : Type 0 where
  pub enough : 10 ≤ count
  pub fault : IsOfFault (page_zero_fault (view 0)) r

-- The bytes spell a section of a superblock that isn't the first.
pub record IsOtherFirst (bytes : List ℕ) (r : Refusal) : Type 0 where
  pub version : ℕ
  pub recorded : ℕ
  pub format : Format
  pub extents : ℕ
  pub pages : ℕ
  pub sections : ℕ
  pub section : ℕ
  pub rows : List (ℕ × ℕ)
  pub superblock : SpellsPageZero bytes format version recorded extents pages sections section rows
  pub other : section ≢ 0
  pub refusal : r ≡ NotAStore

-- section 0 isn't read of the bytes of page 0: they have this fault, or spell another section
abbrev pub IsWhyNoFirst : (bytes : List ℕ) → Refusal → Type 0
IsWhyNoFirst bytes r = IsOfFault (page_zero_fault bytes) r ⊎ IsOtherFirst bytes r

-- Page 0 has another section than the first.
pub record IsOtherSection (count : ℕ) (view : ℕ → List ℕ) (r : Refusal) : Type 0 where
  pub enough : 10 ≤ count
  pub spelled : IsOtherFirst (view 0) r

-- The device has another number of pages than the superblock says.
pub record IsOtherDevice (count : ℕ) (view : ℕ → List ℕ) (r : Refusal) : Type 0 where
  pub enough : 10 ≤ count
  pub version : ℕ
  pub recorded : ℕ
  pub format : Format
  pub extents : ℕ
  pub pages : ℕ
  pub sections : ℕ
  pub rows : List (ℕ × ℕ)
  pub superblock : SpellsPageZero (view 0) format version recorded extents pages sections 0 rows
  pub other : count ≢ device_pages format extents pages sections
  pub refusal : r ≡ NotAStore

-- This is section `section` of a superblock of this format and of so many extents, pages and sections, by its numbers.
-- The format has the identity of the store and the pages of its device.
pub record HasNumbers (format : Format) (extents pages sections section : ℕ) (it : Superblock) : Type 0 where
  pub of_format : it.format ≡ format
  pub of_extents : it.extent_count ≡ extents
  pub of_pages : it.pages ≡ pages
  pub of_sections : it.sections ≡ sections
  pub place : it.section ≡ section

-- The bytes spell, in a format with the number of this one, another section than this one of these numbers. It may be
-- that of another store, or of one whose device had another number of pages.
pub record IsOtherSpelled (format : Format) (extents pages sections section : ℕ) (bytes : List ℕ) (r : Refusal) : Type 0 where
  pub their_format : Format
  pub version : ℕ
  pub recorded : ℕ
  pub their_extents : ℕ
  pub their_pages : ℕ
  pub their_sections : ℕ
  pub their_section : ℕ
  pub rows : List (ℕ × ℕ)
  pub number : number_in their_format ≡ number_in format
  pub spelled : SpellsSuperblock bytes their_format version recorded their_extents their_pages their_sections their_section rows
  pub other : (their_format ≡ format) × (their_extents ≡ extents) × (their_pages ≡ pages) × (their_sections ≡ sections) × (their_section ≡ section) → ⊥
  pub refusal : r ≡ NotAStore

-- a further section isn't read of the bytes of its page: they have this fault, or spell another one
abbrev pub IsWhyNoSection : (format : Format) (extents pages sections section : ℕ) → (bytes : List ℕ) → Refusal → Type 0
IsWhyNoSection format extents pages sections section bytes r =
    IsOfFault (superblock_fault (number_in format) bytes) r ⊎ IsOtherSpelled format extents pages sections section bytes r

-- A further section isn't read, after all before it were.
pub record IsWhyNoSections (view : ℕ → List ℕ) (format : Format) (extents pages sections : ℕ) (r : Refusal) : Type 0 where
  pub section : ℕ
  pub further : 0 < section
  pub one_of_them : section < sections
  pub before : (j : ℕ) → 0 < j → j < section → IsSectionThere view format extents pages sections j
  pub why : IsWhyNoSection format extents pages sections section (view (1 + extents * pages + section)) r

-- A further section of the superblock isn't read.
pub record IsSectionDamaged (count : ℕ) (view : ℕ → List ℕ) (r : Refusal) : Type 0 where
  pub format : Format
  pub extents : ℕ
  pub pages : ℕ
  pub sections : ℕ
  pub first : IsFirstRead count view format extents pages sections
  pub why : IsWhyNoSections view format extents pages sections r

-- Page 1 has this fault as a root of the store's format.
pub record IsRootDamaged (count : ℕ) (view : ℕ → List ℕ) (r : Refusal) : Type 0 where
  pub format : Format
  pub versions : List ℕ
  pub records : List ℕ
  pub pages : ℕ
  pub written : List (ℕ × ℕ)
  pub extents : AreExtentsRead count view format versions records pages written
  pub fault : IsOfFault (root_fault (number_in format) (view 1)) r

-- The bytes spell a root of another store, whose format has the number of this one.
pub record IsOtherIdentity (format : Format) (bytes : List ℕ) (r : Refusal) : Type 0 where
  pub store : Option (List ℕ)
  pub version : ℕ
  pub commands : ℕ
  pub places : List Locator
  pub number : root_number store ≡ number_in format
  pub root : SpellsRoot bytes store version commands places
  pub other : store ≢ identity_in format
  pub refusal : r ≡ NotAStore

-- Page 1 spells a root of another store.
pub record IsOtherRoot (count : ℕ) (view : ℕ → List ℕ) (r : Refusal) : Type 0 where
  pub format : Format
  pub versions : List ℕ
  pub records : List ℕ
  pub pages : ℕ
  pub written : List (ℕ × ℕ)
  pub extents : AreExtentsRead count view format versions records pages written
  pub spelled : IsOtherIdentity format (view 1) r

-- no root of a store of this format is read of the bytes of page 1: they have this fault, or spell a root of another
-- store
abbrev pub IsWhyNoRoot : (format : Format) → (bytes : List ℕ) → Refusal → Type 0
IsWhyNoRoot format bytes r = IsOfFault (root_fault (number_in format) bytes) r ⊎ IsOtherIdentity format bytes r

-- A section records a later root than the one that page 1 spells: that one is of before, and commands that were acknowledged since would be
-- missed.
pub record IsRootLost (count : ℕ) (view : ℕ → List ℕ) (r : Refusal) : Type 0 where
  pub format : Format
  pub versions : List ℕ
  pub records : List ℕ
  pub pages : ℕ
  pub written : List (ℕ × ℕ)
  pub places : List Locator
  pub root : IsRootRead count view format versions records pages written places
  pub section : ℕ
  pub one_of_them : section < length versions
  pub later : root.version < slice_index records section
  pub refusal : r ≡ RootLost

-- no run is read at a place: it isn't located, or the frame there has this fault, or its payload has it
abbrev pub IsWhyNotRead : ExtentsState → (view : ℕ → List ℕ) → Locator → Refusal → Type 0
IsWhyNotRead x view place r = ((¬ IsLocated x place) × (r ≡ NotAStore))
    ⊎ (IsLocated x place × IsOfFault (fault_in x view Run place) r)
    ⊎ (IsLocated x place × ((payload : List ℕ) × IsFrameIn x view RunFrame place payload × IsOfFault (run_fault x.format payload) r))

-- A run of the root isn't read, after all older ones were.
pub record IsRunDamaged (count : ℕ) (view : ℕ → List ℕ) (r : Refusal) : Type 0 where
  pub format : Format
  pub versions : List ℕ
  pub records : List ℕ
  pub pages : ℕ
  pub written : List (ℕ × ℕ)
  pub places : List Locator
  pub root : IsRootRead count view format versions records pages written places
  pub recorded_fit : AreRecordedBy (length versions) records root.version
  pub runs : List StoredRun
  pub older : AreRunsRead (extents_at format pages (length versions) written) view places runs
  pub place : Locator
  pub next : slice_get places (length runs) ≡ Some place
  pub why : IsWhyNotRead (extents_at format pages (length versions) written) view place r

-- each locator of the newest entry of each identifier of an index is located
abbrev pub AreLiveLocated : ExtentsState → List Entry → Type 0
AreLiveLocated x index = (id : ℕ) (l : Place) → l ∈ live_at index id → IsLocated x (as_locator l)

-- The locators of entries are located, by the rule of the format: those of all entries where hidden ones stand, else those of the newest
-- entry of each identifier.
pub record AreLocatedBy (x : ExtentsState) (runs : List StoredRun) : Type 0 where
  pub whole : (shape x).hidden_stand ≡ true → AreLocated x runs
  pub visible : (shape x).hidden_stand ≡ false → AreVisibleLocated x runs

-- All runs are read, and a locator of an entry isn't located, or the newest entries weigh more than those of one run may.
pub record IsIndexDamaged (count : ℕ) (view : ℕ → List ℕ) (r : Refusal) : Type 0 where
  pub format : Format
  pub versions : List ℕ
  pub records : List ℕ
  pub pages : ℕ
  pub written : List (ℕ × ℕ)
  pub runs : List StoredRun
  pub root : IsRootRead count view format versions records pages written (map (λ run. run.place) runs)
  pub recorded_fit : AreRecordedBy (length versions) records root.version
  pub runs_read : AllByRecursion (IsRunRead (extents_at format pages (length versions) written) view) runs
  pub why : (¬ AreLocatedBy (extents_at format pages (length versions) written) runs)
      ⊎ ((shape (extents_at format pages (length versions) written)).most_weight
      < named_weight (shape (extents_at format pages (length versions) written)).weigh (entries_of (newest_first runs)))
  pub refusal : r ≡ NotAStore

-- why a device of so many pages, which read as these, isn't opened: the first of these tests that fails
abbrev pub IsWhyNotOpened : (count : ℕ) → (view : ℕ → List ℕ) → Refusal → Type 0
IsWhyNotOpened count view r = IsTooSmall count r ⊎ IsSuperblockDamaged count view r ⊎ IsOtherSection count view r ⊎ IsOtherDevice count view r
    ⊎ IsSectionDamaged count view r ⊎ IsRootDamaged count view r ⊎ IsOtherRoot count view r ⊎ IsRootLost count view r ⊎ IsRunDamaged count view r ⊎ IsIndexDamaged count view r

-- the refusals of any opening: 1, 9, 20 to 27, and 43
abbrev pub IsOpeningRefusal : Refusal → Type 0
IsOpeningRefusal r = IsNoAnswer r ⊎ ((20 ≤ number_of r) × (number_of r ≤ 27)) ⊎ (r ≡ NotAStore)

-- ---- what is read on the way

-- the runs at these places aren't all read, and this is why
pub record IsWhyNoRuns (x : ExtentsState) (view : ℕ → List ℕ) (places : List Locator) (r : Refusal) : Type 0 where
  pub runs : List StoredRun
  pub older : AreRunsRead x view places runs
  pub place : Locator
  pub next : slice_get places (length runs) ≡ Some place
  pub why : IsWhyNotRead x view place r
