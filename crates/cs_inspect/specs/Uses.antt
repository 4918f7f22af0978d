-- How the extents of a store are used.
use Rattle.std.specs.Prelude.{◌≡◌, ◌⊎◌, ◌↔◌, ◌+◌, ◌-◌, ◌^◌, ◌<◌, ◌≤◌, ◌==◌, ℕ, List, [], ◌∷◌, Option, Some, None, IsTrue, if◌then◌else◌, length, map, min, slice_get, slice_index}
use Rattle.cs_chunk.specs.Chunks.{end_in}
use Rattle.cs_chunk.specs.Newest.{AreNewest}
use Rattle.cs_core.specs.Views.{View}
use Rattle.cs_disk.specs.Disk.{Rises, seen}
use Rattle.cs_disk.specs.declared.disk.PageDisk.{Ghosts as PageDisk}
use Rattle.cs_extent.specs.State.{State as ExtentsState, shape}
use Rattle.cs_frame.specs.declared.faults.FormatFault.{FormatFault}
use Rattle.cs_frame.specs.declared.frames.FrameKind.TheVariants.{Chunk as ChunkKind}
use Rattle.cs_frame.specs.declared.locators.Locator.{Locator}
use Rattle.cs_frame.specs.Formats.{as_locator}
use Rattle.cs_frame.specs.Frames.{kind_byte, page_count, payload_length}
use Rattle.cs_frame.specs.MeantFrames.{meant_header_fault}
use Rattle.cs_index.specs.State.{index_of}
use Rattle.law_machine.specs.Extents.{Extents}
use Rattle.law_machine.specs.Format.{Format}
use Rattle.cs_inspect.specs.Chunks.{AreLiveChunks, Chunk}
use Rattle.cs_inspect.specs.declared.surveys.ExtentUse.{ExtentUse}
use Rattle.cs_inspect.specs.Failures.{RisesBy}

-- ---- what headers say

-- the extent on which a frame begins, and how many pages its header counts, None where that says nothing
abbrev pub Head : Type 0
Head = ℕ × Option ℕ

-- so many pages, unless the header has a fault
abbrev pub unless_fault : Option FormatFault → ℕ → Option ℕ
unless_fault None pages = Some pages
unless_fault (Some f) pages = None

-- how many pages the header in this first page counts of the frame of a chunk that a place of this mark means, which
-- may have no more than so many. It is None if it fails a test, or is another frame's
abbrev pub pages_counted : Format → (mark : ℕ) → (first : List ℕ) → (at_most : ℕ) → Option ℕ
pages_counted format mark first at_most =
    unless_fault (meant_header_fault format (kind_byte ChunkKind) mark first at_most) (page_count (payload_length first))

-- how many pages the header at a place counts of a chunk's frame, which reaches no further than it may in these extents
abbrev pub pages_said : ExtentsState → (view : ℕ → List ℕ) → Locator → Option ℕ
pages_said x view l = pages_counted (shape x).format l.mark (view ((shape x).address l.extent l.page)) (end_in x l - l.page)

-- what the header of a chunk says
abbrev pub head_of : ExtentsState → (view : ℕ → List ℕ) → Chunk → Head
head_of x view c = (c.place.extent, pages_said x view (as_locator c.place))

-- what the headers of these chunks say, one after another
abbrev pub heads_of : ExtentsState → (view : ℕ → List ℕ) → List Chunk → List Head
heads_of x view cs = map (head_of x view) cs

-- the sum over those heads that are on extent e
abbrev pub sum_on : (Option ℕ → ℕ) → (e : ℕ) → List Head → ℕ
sum_on count e [] = 0
sum_on count e (h ∷ hs) = (if h.0 == e then count h.1 else 0) + sum_on count e hs

abbrev pub pages_in : Option ℕ → ℕ
pages_in None = 0
pages_in (Some pages) = pages

abbrev pub missing_in : Option ℕ → ℕ
missing_in None = 1
missing_in (Some pages) = 0

-- how many pages the headers count together that are on extent e
abbrev pub live_on : (e : ℕ) → List Head → ℕ
live_on e heads = sum_on pages_in e heads

-- how many headers on extent e say nothing
abbrev pub unreadable_on : (e : ℕ) → List Head → ℕ
unreadable_on e heads = sum_on missing_in e heads

module _ {D : Type 0} (disks : PageDisk D) where
  -- this holds of what the headers of all live chunks say
  abbrev pub HoldsOfHeads : View D → (List Head → Type 0) → Type 0
  HoldsOfHeads v Holds = (view : ℕ → List ℕ) (chunks : List Chunk) → AreNewest v.store.graph (seen (disks.state v.disk)) view → AreLiveChunks (index_of v.store.index) chunks
      → Holds (heads_of v.store.extents view chunks)

-- ---- the use of an extent

-- pointer and generation are those of extent e, and so is whether it is open, swept and holds runs
pub record IsExtent (x : Extents) (e : ℕ) (used : ExtentUse) : Type 0 where
  pub pointer : used.pointer ≡ x.pointer e
  pub generation : used.generation ≡ x.generation e
  pub is_open : IsTrue used.is_open ↔ (x.open_extent ≡ Some e)
  pub is_swept : used.is_swept ≡ x.swept e
  pub of_runs : used.holds_runs ≡ x.of_runs e

-- there is one for each of so many extents, in their order
abbrev pub AreExtents : (extents : ℕ) → Extents → List ExtentUse → Type 0
AreExtents extents x uses = (length uses ≡ extents) × ((e : ℕ) (used : ExtentUse) → slice_get uses e ≡ Some used → IsExtent x e used)

-- of each extent the pages are counted and the headers that can't be read, by what the headers say
abbrev pub AreCounted : List Head → List ExtentUse → Type 0
AreCounted heads uses = (e : ℕ) (used : ExtentUse) → slice_get uses e ≡ Some used
    → (used.live ≡ min (live_on e heads) (2 ^ 64 - 1)) × (used.unreadable ≡ min (unreadable_on e heads) (2 ^ 64 - 1))

-- of each extent no more pages are counted than the headers say, and no fewer headers that can't be read
abbrev pub AreBounded : List Head → List ExtentUse → Type 0
AreBounded heads uses = (e : ℕ) (used : ExtentUse) → slice_get uses e ≡ Some used
    → (used.live ≤ live_on e heads) × (min (unreadable_on e heads) (2 ^ 64 - 1) ≤ used.unreadable)

-- ---- counting

-- these are the sums of each extent, up to the greatest number of 64 bits
abbrev pub AreSums : (Option ℕ → ℕ) → List Head → List ℕ → Type 0
AreSums count heads sums = (e : ℕ) → e < length sums → slice_index sums e ≡ min (sum_on count e heads) (2 ^ 64 - 1)

-- both are counted of each extent
abbrev pub AreTallied : List Head → (live unreadable : List ℕ) → Type 0
AreTallied heads live unreadable = AreSums pages_in heads live × AreSums missing_in heads unreadable

-- each extent has its count
abbrev pub AreUses : (extents : ℕ) → Extents → (live unreadable : List ℕ) → List ExtentUse → Type 0
AreUses extents x live unreadable uses = (length uses ≡ extents) × ((e : ℕ) (used : ExtentUse) → slice_get uses e ≡ Some used
    → IsExtent x e used × (used.live ≡ slice_index live e) × (used.unreadable ≡ slice_index unreadable e))

-- a header was read as it says, or, where a read failed, as saying nothing
abbrev pub IsReadAs : (failed : Type 0) → (said read : Option ℕ) → Type 0
IsReadAs failed said read = (read ≡ said) ⊎ ((read ≡ None) × failed)

-- each was read as it says, or, where a read failed, as saying nothing
abbrev pub AreReadAs : (failed : Type 0) → (heads read : List Head) → Type 0
AreReadAs failed [] [] = Unit {0}
AreReadAs failed (h ∷ hs) (r ∷ rs) = ((r ≡ h) ⊎ ((r ≡ (h.0, None)) × failed)) × AreReadAs failed hs rs
AreReadAs failed [] (r ∷ rs) = ⊥
AreReadAs failed (h ∷ hs) [] = ⊥

-- one, where a header says something and was read as saying nothing
abbrev pub lost_one : (said read : Option ℕ) → ℕ
lost_one (Some pages) None = 1
lost_one said read = 0

-- how many headers were lost so
abbrev pub lost_in : (heads read : List Head) → ℕ
lost_in (h ∷ hs) (r ∷ rs) = lost_one h.1 r.1 + lost_in hs rs
lost_in heads read = 0

-- Each header was read as it says, or, where a read failed, as saying nothing; and the count of failures rose by as
-- many as were lost so.
pub record AreRead (before after : ℕ) (heads read : List Head) : Type 0 where
  pub each : AreReadAs (Rises before after) heads read
  pub lost : RisesBy (lost_in heads read) before after

-- of each extent it is counted what was read of these headers
abbrev pub AreCountedAsRead : (before after : ℕ) → (heads : List Head) → List ExtentUse → Type 0
AreCountedAsRead before after heads uses = (read : List Head) × AreRead before after heads read × AreCounted read uses

-- ---- what to sweep

-- the pages that a sweep could free: those that are given and not live; none where frames are appended, where a sweep
-- goes on, or on an extent of runs
abbrev pub garbage : ExtentUse → ℕ
garbage used = if used.is_open then 0 else if used.is_swept then 0 else if used.holds_runs then 0 else used.pointer - used.live

-- no extent has any
abbrev pub HasNoGarbage : List ExtentUse → Type 0
HasNoGarbage uses = (e : ℕ) (used : ExtentUse) → slice_get uses e ≡ Some used → garbage used ≡ 0

-- extent e has some, no other has more, and of those that have as much it is the first
pub record IsMostGarbage (uses : List ExtentUse) (e : ℕ) : Type 0 where
  pub its : ExtentUse
  pub there : slice_get uses e ≡ Some its
  pub some : 0 < garbage its
  pub most : (k : ℕ) (used : ExtentUse) → slice_get uses k ≡ Some used → (garbage used < garbage its) ⊎ ((garbage used ≡ garbage its) × (e ≤ k))
