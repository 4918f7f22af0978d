-- Calls of reclaim, one after another.
use Rattle.std.specs.Prelude.{◌≡◌, ◌⊎◌, ◌+◌, ◌<◌, ◌≤◌, ℕ, zero, suc, false, List, Option, Some, None}
use Rattle.cs_chunk.specs.Newest.{AreNewest}
use Rattle.cs_deps.specs.State.{IsWhole as IsWholeGraph}
use Rattle.cs_disk.specs.declared.disk.PageDisk.{Ghosts as PageDisk}
use Rattle.cs_disk.specs.Disk.{Rises, seen}
use Rattle.cs_extent.specs.State.{IsWhole, extents_of, shape}
use Rattle.cs_index.specs.State.{index_of}
use Rattle.cs_disk.specs.Disk.{State as DiskState}
use Rattle.cs_frame.specs.Formats.{formats_of}
use Rattle.cs_frame.specs.declared.identifiers.ShardId.{ShardId}
use Rattle.cs_index.specs.State.{id_number}
use Rattle.law_machine.specs.Append.{chunk_frames, page_counts}
use Rattle.law_machine.specs.Element.{Map}
use Rattle.law_machine.specs.Events.{ArePayloads}
use Rattle.law_room.specs.Brim.{AreFewFor, FitBeside, NothingDead, all_dead, dead_extents}
use Rattle.law_room.specs.Rooms.{Room, all_pages}
use Rattle.law_room_in_store.specs.Cores.{IsRoomIn}
use Rattle.law_machine.specs.Index.{NoneDamaged, names}
use Rattle.cs_core.specs.Views.{View}
use Rattle.cs_inspect.specs.Chunks.{AreLiveChunks, Chunk}
use Rattle.cs_inspect.specs.declared.surveys.ExtentUse.{ExtentUse}
use Rattle.cs_inspect.specs.Uses.{AreCounted, AreExtents, heads_of}
use Rattle.cs_writeback.specs.Runs.{Ran}
use Rattle.cs_writeback.specs.Syncs.{Syncs}
use Rattle.cs_store.specs.declared.reclaims.Reclaimed.{Reclaimed}
use Rattle.cs_store.specs.Maps.{HasMap}
use Rattle.cs_store.specs.Reclaims.{Reclaims, reclaimed_extent}
use Rattle.cs_inspect.specs.Choices.{GoesNext, ReadsOn}

-- no sweep goes on, and none was given up since the last root
pub record IsIdle {D : Type 0} (v : View D) : Type 0 where
  pub none_swept : (e : ℕ) → e < (shape v.store.extents).extents → (extents_of v.store.extents).swept e ≡ false
  pub none_opened : (extents_of v.store.extents).fresh ≡ None

module _ {D : Type 0} (disks : PageDisk D) where
  -- What a call of reclaim did that answered this: its clauses `chosen` and `ran`, of a store with the clauses `whole`
  -- and `graph` of `found` and with a map of which no shard is damaged.
  pub record IsReclaim (v : View D) (found : Option Reclaimed) (w : View D) : Type 0 where
    pub whole : IsWhole v.store.extents
    pub graph : IsWholeGraph v.store.graph
    pub shards : Map
    pub has_map : HasMap v shards
    pub undamaged : NoneDamaged shards
    pub chosen : disks.honest v.disk → (view : ℕ → List ℕ) (chunks : List Chunk) → AreNewest v.store.graph (seen (disks.state v.disk)) view
        → AreLiveChunks (index_of v.store.index) chunks
        → (read : View D) × ReadsOn disks v read × Reclaims disks read found w
        × GoesNext disks (heads_of v.store.extents view chunks) (names (index_of v.store.index)) v read (reclaimed_extent found)
    pub ran : Ran disks v w

  -- no call of the disk failed from v to w: its count of failures hasn't risen, nor does it stand at its end
  abbrev pub NoneFailed : View D → View D → Type 0
  NoneFailed v w = ¬ Rises (disks.failure_count v.disk) (disks.failure_count w.disk)

  -- there was a sync, or none
  abbrev pub AreSynced : View D → View D → Type 0
  AreSynced v w = (w ≡ v) ⊎ (Syncs disks v w × Ran disks v w)

  -- so many calls of reclaim swept an extent each, one after another, with a sync behind each or none
  abbrev pub ReclaimsBy : ℕ → View D → View D → Type 0
  ReclaimsBy zero v w = w ≡ v
  ReclaimsBy (suc n) v w = (swept : Reclaimed) × (mid : View D) × (next : View D) × IsReclaim v (Some swept) mid × AreSynced mid next
      × ReclaimsBy n next w

-- These are the chunks that live in the core, and these the uses of its extents, counted by the headers of those
-- chunks.
pub record AreUsesOf {D : Type 0} (v : View D) (view : ℕ → List ℕ) (chunks : List Chunk) (uses : List ExtentUse) : Type 0 where
  pub live : AreLiveChunks (index_of v.store.index) chunks
  pub listed : AreExtents (shape v.store.extents).extents (extents_of v.store.extents) uses
  pub counted : AreCounted (heads_of v.store.extents view chunks) uses

module _ {D : Type 0} (state : D → DiskState) where
  -- at most so many extents of chunks have dead pages
  abbrev pub DeadAtMost : View D → ℕ → Type 0
  DeadAtMost v extents = (r : Room) → IsRoomIn state v r → dead_extents r (shape v.store.extents).extents ≤ extents

  -- no page of an extent of chunks is dead
  abbrev pub NothingDeadIn : View D → Type 0
  NothingDeadIn v = (r : Room) → IsRoomIn state v r → NothingDead (shape v.store.extents) r

  -- chunks of at most c pages each live, and little enough so that n extents are left (`AreFewFor` of law_room)
  abbrev pub LiveFewFor : View D → (n c : ℕ) → Type 0
  LiveFewFor v n c = (r : Room) → IsRoomIn state v r → AreFewFor (shape v.store.extents) (shape v.store.extents).run_extents n c r

  -- at most so many pages of chunks live or are dead
  abbrev pub TakenAtMost : View D → ℕ → Type 0
  TakenAtMost v pages = (r : Room) → IsRoomIn state v r → all_pages r.chunks + all_dead r (shape v.store.extents).extents ≤ pages

-- The frames of a put of these bytes have room beside so many pages that live: each has at most y pages, and they and what lives are
-- fewer than N (P - y + 1) + y, where N extents of P pages may hold chunks (`FitBeside` of law_room).
abbrev pub FitsBeside : {D : Type 0} → View D → (live : ℕ) → ShardId → List ℕ → Type 0
FitsBeside v live id bytes = (command : ℕ) (chunks : List (List ℕ)) → ArePayloads (shape v.store.extents) (formats_of (shape v.store.extents)) (id_number id) command bytes chunks
    → FitBeside (shape v.store.extents) (shape v.store.extents).run_extents live (page_counts (chunk_frames (shape v.store.extents) (formats_of (shape v.store.extents)) chunks))
