-- What a call of reclaim chose by: there is a view of the pages and a list of the live chunks, of which its clause
-- speaks.
use Rattle.std.proofs.Common.{◌≡◌, ℕ, ◌≤◌, List, [], ◌∷◌, ◌++◌, Option, Some, None, length, le_of_eq, le_trans, refl, sym, ap, ◌∙◌, arith}
use Rattle.cs_chunk.specs.Newest.{AreNewest}
use Rattle.cs_core.proofs.Gets.{newest_there}
use Rattle.cs_core.specs.declared.events.Event.{Event}
use Rattle.cs_core.specs.declared.events.Event.TheVariants.{BeginSweep, MoveOne, Retire}
use Rattle.cs_core.specs.declared.events.Reply.{Reply}
use Rattle.cs_core.specs.declared.events.Reply.TheVariants.{NoneLive, Retired, Sweeping}
use Rattle.cs_core.specs.Views.{IsIn, View}
use Rattle.cs_disk.specs.declared.disk.PageDisk.{Ghosts as PageDisk}
use Rattle.cs_disk.specs.Disk.{Rises, seen}
use Rattle.cs_writeback.specs.Sweeps.{moves}
use Rattle.cs_extent.specs.State.{shape}
use Rattle.cs_frame.specs.declared.identifiers.ShardId.{ShardId}
use Rattle.cs_core.specs.cs_reader.ImageReads.{page_total}
use Rattle.cs_index.specs.State.{index_of}
use Rattle.law_machine.proofs.Sorted.{sorted_live}
use Rattle.law_machine.specs.Element.{Entry}
use Rattle.law_machine.specs.Index.{names}
use Rattle.law_machine.specs.State as model
use Rattle.law_refinement.specs.Devices.{pages_now}
use Rattle.cs_store.specs.declared.reclaims.Reclaimed.{Reclaimed}
use Rattle.cs_store.specs.Reclaims.{Reclaims, reclaimed_extent}
use Rattle.cs_inspect.specs.Choices.{GoesNext, ReadsOn}
use Rattle.cs_inspect.specs.Chunks.{AreLiveChunks, Chunk, chunks_of}
use Rattle.cs_inspect.specs.Uses.{heads_of}
use Rattle.law_room_in_store.proofs.Reaching.{Anything, any_sync, reaches_events, reaches_ready}
use Rattle.law_room_in_store.specs.Reclaims.{IsReclaim, NoneFailed}
use Rattle.law_room_in_store.specs.Roomy.{IsRoomyCore}

-- each index has a list of all chunks of all that lives
pub live_chunks_there : (index : List Entry) → (chunks : List Chunk) × AreLiveChunks index chunks
live_chunks_there index = let all = sorted_live index in (chunks_of all.0, (all.0, (all.1, all.2), refl))

-- the events of a sweep
abbrev swept_by : (extent : ℕ) → List (ShardId × ℕ) → (root : ℕ) → List (Event × Reply)
swept_by extent moved root = (BeginSweep extent, Sweeping) ∷ moves extent moved ++ (MoveOne extent, NoneLive) ∷ (Retire extent, Retired root) ∷ []

module _ {D : Type 0} (disks : PageDisk D) where
  -- what its clause gives of the view and the list that are there
  pub record Chose (v : View D) (found : Option Reclaimed) (w : View D) : Type 0 where
    pub view : ℕ → List ℕ
    pub newest : AreNewest v.store.graph (seen (disks.state v.disk)) view
    pub chunks : List Chunk
    pub live : AreLiveChunks (index_of v.store.index) chunks
    pub read : View D
    pub reads : ReadsOn disks v read
    pub reclaims : Reclaims disks read found w
    pub goes : GoesNext disks (heads_of v.store.extents view chunks) (names (index_of v.store.index)) v read (reclaimed_extent found)

  -- what is done behind the reads doesn't lower the count of failures
  pub reclaimed_later : (read w : View D) (found : Option Reclaimed) → Reclaims disks read found w
      → disks.failure_count read.disk ≤ disks.failure_count w.disk
  reclaimed_later read w None same = le_of_eq (sym (ap (λ (u : View D). disks.failure_count u.disk) same))
  reclaimed_later read w (Some swept) (ready, made, sweeps) = le_trans (reaches_ready disks Anything any_sync read ready made).later
      (reaches_events disks (swept_by swept.extent sweeps.moved swept.root) ready w sweeps.went).later

  -- where no call failed all the time, none did in a part of it
  pub none_within : (first v w last : View D) → disks.failure_count first.disk ≤ disks.failure_count v.disk
      → disks.failure_count w.disk ≤ disks.failure_count last.disk → NoneFailed disks first last → NoneFailed disks v w
  none_within first v w last before behind none some = none
      (let rise : Rises (disks.failure_count v.disk) (disks.failure_count w.disk) = some in omega (arith, before, behind, rise))

  module _ (sized : (d : D) → disks.honest d → length (disks.state d).durable ≡ disks.page_count d) (v : View D) (roomy : IsRoomyCore disks v) where
    pub enough : page_total (shape v.store.extents) ≤ length (disks.state v.disk).durable
    enough = le_of_eq (sym (sized v.disk roomy.honest ∙ roomy.core.device))

    pub chose_by : (w : View D) (found : Option Reclaimed) → IsReclaim disks v found w → (s : model.State) → IsIn disks.state v s → Chose v found w
    chose_by w found call s is =
        let view : ℕ → List ℕ = pages_now (shape v.store.extents) s (seen (disks.state v.disk)) in
        let newest : AreNewest v.store.graph (seen (disks.state v.disk)) view =
        newest_there v.store call.whole call.graph (disks.state v.disk) enough s is.store is.disk in
        let list = live_chunks_there (index_of v.store.index) in
        let did = call.chosen roomy.honest view list.0 newest list.1 in record {
          view = view;
          newest = newest;
          chunks = list.0;
          live = list.1;
          read = did.0;
          reads = did.1;
          reclaims = did.2;
          goes = did.3;
        }
