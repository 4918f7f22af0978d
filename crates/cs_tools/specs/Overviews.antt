-- What `stat` prints for a person.
use Rattle.std.specs.Prelude.{◌≡◌, ◌+◌, ◌-◌, ◌*◌, ◌/◌, ℕ, List, [], ◌∷◌, ◌++◌, MatchOption, max, min}
use Rattle.cs_core.specs.Stored.{Stored}
use Rattle.cs_core.specs.Views.{View}
use Rattle.cs_disk.specs.declared.disk.PageDisk.{Ghosts as PageDisk}
use Rattle.cs_extent.specs.State.{extents_of, shape}
use Rattle.cs_index.specs.State.{State as Index, index_of}
use Rattle.cs_inspect.specs.Brim.{AreSurveyed}
use Rattle.cs_inspect.specs.Kinds.{LieApart, LieTogether}
use Rattle.cs_inspect.specs.Uses.{AreExtents, HoldsOfHeads}
use Rattle.cs_inspect.specs.declared.surveys.ExtentUse.{ExtentUse}
use Rattle.law_machine.specs.Extents.{empties}
use Rattle.law_machine.specs.Geometry.{weigh_in}
use Rattle.law_machine.specs.Index.{named_weight}
use Rattle.law_machine.specs.Tally.{shards}
use Rattle.cs_tools.specs.ExtentMaps.{map_text}
use Rattle.cs_tools.specs.Headers.{AreUnreadable}
use Rattle.cs_tools.specs.MapPictures.{picture_text}
use Rattle.cs_tools.specs.Summaries.{summary_text}
use Rattle.cs_tools.specs.declared.chunk_rooms.ChunkRoom.{ChunkRoom}
use Rattle.cs_tools.specs.declared.overviews.Overview.{Overview}
use Rattle.cs_tools.specs.declared.overviews.Overview.TheVariants.{Map, Picture, Summary, SummaryAndMap}
use Rattle.cs_tools.specs.declared.summaries.Figures.{Figures}

-- how many pages live on these extents
abbrev pub live_pages : List ExtentUse → ℕ
live_pages [] = 0
live_pages (used ∷ uses) = used.live + live_pages uses

-- how many identifiers of one chunk an index has room for still: the entry of each weighs 33
abbrev pub identifiers_left : Index → ℕ
identifiers_left index = (index.limit - named_weight (weigh_in index.format) (index_of index)) / 33

-- This is the room for chunks of a store whose extents are used so, and whose greatest live chunk has so many pages.
-- All extents but those for runs and two may hold chunks.
pub record IsChunkRoom (s : Stored) (uses : List ExtentUse) (greatest : ℕ) (room : ChunkRoom) : Type 0 where
  pub apart : LieApart (shape s.extents)
  pub extents : room.extents ≡ (shape s.extents).extents - (shape s.extents).run_extents - 2
  pub pages : room.pages ≡ (shape s.extents).pages
  pub live : room.live ≡ min (live_pages uses) (room.extents * room.pages)
  pub greatest_chunk : room.greatest ≡ max 1 (min greatest room.pages)
  pub identifiers : room.identifiers ≡ identifiers_left s.index

-- These are the figures of such a store.
pub record AreFigures (s : Stored) (uses : List ExtentUse) (greatest : ℕ) (figures : Figures) : Type 0 where
  pub shards_there : figures.shards ≡ shards (index_of s.index)
  pub room : MatchOption figures.room (LieTogether (shape s.extents)) (IsChunkRoom s uses greatest)
  pub empty : figures.empty ≡ empties (extents_of s.extents).pointer (shape s.extents).extents
  pub unreadable : AreUnreadable uses figures.unreadable

-- what is printed of these figures, and of these extents of so many pages
abbrev pub overview_text : Overview → (pages : ℕ) → Figures → List ExtentUse → List ℕ
overview_text Summary pages figures uses = summary_text figures
overview_text Map pages figures uses = map_text pages uses
overview_text SummaryAndMap pages figures uses = summary_text figures ++ map_text pages uses
overview_text Picture pages figures uses = picture_text pages uses

module _ {D : Type 0} (disks : PageDisk D) where
  -- Extents were seen to be used so, and the greatest live chunk to have so many pages, both as the headers say on an
  -- honest disk, where one whose read failed says nothing.
  pub record IsSeen (old new : View D) (uses : List ExtentUse) (greatest : ℕ) : Type 0 where
    pub extents : AreExtents (shape old.store.extents).extents (extents_of old.store.extents) uses
    pub read : disks.honest old.disk → HoldsOfHeads disks old (λ heads. AreSurveyed (disks.failure_count old.disk) (disks.failure_count new.disk) heads uses greatest)
