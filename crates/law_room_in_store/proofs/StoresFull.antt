-- What the typed store refuses for want of a place.
use Rattle.std.proofs.Common.{◌≡◌, ◌⊎◌, inl, inr, ℕ, List, []}
use Rattle.cs_refusal.specs.declared.refusals.Refusal.{Refusal}
use Rattle.cs_refusal.specs.declared.refusals.Refusal.TheVariants as refusal
use Rattle.cs_disk.specs.declared.disk.PageDisk.{Ghosts as PageDisk}
use Rattle.cs_frame.specs.declared.identifiers.ShardId.{ShardId}
use Rattle.cs_core.specs.Checkpoints.{IsNotReplaced}
use Rattle.cs_core.specs.declared.events.Event.{Event}
use Rattle.cs_core.specs.declared.events.Event.TheVariants.{Abandon, Delete, Put}
use Rattle.cs_core.specs.Views.{View}
use Rattle.cs_writeback.specs.Histories.{IsStopped}
use Rattle.cs_writeback.specs.Syncs.{StopsSync}
use Rattle.cs_store.specs.Events.{Declines, DeclinesCopy, IsHalted}
use Rattle.cs_inspect.specs.Choices.{ReadsOn}
use Rattle.cs_store.specs.Reserves.{RefusesPut}
use Rattle.cs_store.specs.Rooms.{IsMadeReady, IsNoRoom, StaysFull, room_refusal}
use Rattle.cs_store.specs.Sweeps.{DeclinesSweep}
use Rattle.law_room_in_store.proofs.KeepingRoom.{IsRoomyState, reached_state, read_untouched}
use Rattle.law_room_in_store.proofs.NeverFull.{Puts, abandon_no_put, delete_no_put, stopped_full, sweep_full, sync_full}
use Rattle.law_room_in_store.proofs.Reaching.{Anything, any_sync, reaches_ready, reaches_room, reaches_untouched}
use Rattle.law_room_in_store.specs.Cores.{NoneWornIn}

-- where a checkpoint is refused it isn't told as want of a place
not_replaced : {D : Type 0} (v : View D) (why : Refusal) → IsNotReplaced v why → refusal.Full ≡ room_refusal why → ⊥
not_replaced v refusal.Halted is full = let no : refusal.Full ≡ refusal.Halted = full in cc
not_replaced v refusal.Unsettled is full = let no : refusal.Full ≡ refusal.HistoryFull = full in cc
not_replaced v refusal.WornOut is full = let no : refusal.Full ≡ refusal.WornOut = full in cc
not_replaced v why none full = absurd none

module _ {D : Type 0} (disks : PageDisk D) where
  halted_full : (v w : View D) → IsHalted v refusal.Full w → ⊥
  halted_full v w halted = let no : refusal.Full ≡ refusal.Halted = halted.1 in cc

  -- the sync that makes room for an event isn't refused so
  no_room_full : (v w : View D) → IsRoomyState disks v → NoneWornIn w → IsNoRoom disks v refusal.Full w → ⊥
  no_room_full v w roomy young no_room = go no_room.why
    where
      go : StaysFull disks no_room.full refusal.Full w → ⊥
      go (inl stops) = sync_full disks no_room.full w
          (reached_state disks v no_room.full roomy (reaches_room disks Anything any_sync v no_room.full no_room.made)) young stops
      go (inr (synced, why, syncs, refused, is, told)) = not_replaced synced why refused told

  pub ready_state : (v ready : View D) → IsRoomyState disks v → IsMadeReady disks v ready → IsRoomyState disks ready
  ready_state v ready roomy made = reached_state disks v ready roomy (reaches_ready disks Anything any_sync v ready made)

  -- an event that is declined so is a put
  declined_full : (v w : View D) (event : Event) → IsRoomyState disks v → NoneWornIn w → Declines disks v event refusal.Full w
      → (ready : View D) × IsMadeReady disks v ready × IsStopped disks ready [] event refusal.Full w
  declined_full v w event roomy young (inl none) = absurd (no_room_full v w roomy young none)
  declined_full v w event roomy young (inr (ready, made, stopped)) = (ready, made, stopped)

  declined_put : (v w : View D) (event : Event) → IsRoomyState disks v → NoneWornIn w → Declines disks v event refusal.Full w
      → Puts event
  declined_put v w event roomy young declines = let d = declined_full v w event roomy young declines in
      stopped_full disks d.0 w [] event (ready_state v d.0 roomy d.1) young d.2

  -- ---- the calls

  pub store_sync : (v w : View D) → IsRoomyState disks v → NoneWornIn w
      → IsHalted v refusal.Full w ⊎ StopsSync disks v refusal.Full w → ⊥
  store_sync v w roomy young (inl halted) = halted_full v w halted
  store_sync v w roomy young (inr stops) = sync_full disks v w roomy young stops

  pub store_delete : (v w : View D) (id : ShardId) → IsRoomyState disks v → NoneWornIn w
      → IsHalted v refusal.Full w ⊎ Declines disks v (Delete id) refusal.Full w → ⊥
  store_delete v w id roomy young (inl halted) = halted_full v w halted
  store_delete v w id roomy young (inr declines) = delete_no_put id (declined_put v w (Delete id) roomy young declines)

  declined_sweep : (e : ℕ) (v w : View D) → IsRoomyState disks v → NoneWornIn w → DeclinesSweep disks e v w refusal.Full → ⊥
  declined_sweep e v w roomy young (inl none) = no_room_full v w roomy young none
  declined_sweep e v w roomy young (inr (ready, made, refused)) =
      sweep_full disks e ready w (ready_state v ready roomy made) young refused

  pub store_sweep : (e : ℕ) (v w : View D) → IsRoomyState disks v → NoneWornIn w
      → IsHalted v refusal.Full w ⊎ DeclinesSweep disks e v w refusal.Full → ⊥
  store_sweep e v w roomy young (inl halted) = halted_full v w halted
  store_sweep e v w roomy young (inr declines) = declined_sweep e v w roomy young declines

  pub store_abandon : (e : ℕ) (v w : View D) → IsRoomyState disks v → NoneWornIn w
      → IsHalted v refusal.Full w ⊎ IsStopped disks v [] (Abandon e) refusal.Full w → ⊥
  store_abandon e v w roomy young (inl halted) = halted_full v w halted
  store_abandon e v w roomy young (inr stopped) = abandon_no_put e (stopped_full disks v w [] (Abandon e) roomy young stopped)

  -- reads
  pub read_state : (v w : View D) → IsRoomyState disks v → ReadsOn disks v w → IsRoomyState disks w
  read_state v w roomy reads = reached_state disks v w roomy (reaches_untouched disks Anything v w reads.1.honesty.0 (read_untouched disks v w reads.0 reads.1))

  pub store_reclaim : (v w : View D) → IsRoomyState disks v → NoneWornIn w
      → IsHalted v refusal.Full w ⊎ ((read : View D) × (extent : ℕ) × ReadsOn disks v read
      × ((refusal.Full ≡ refusal.OutOfMemory) × (w ≡ read) ⊎ DeclinesSweep disks extent read w refusal.Full)) → ⊥
  store_reclaim v w roomy young (inl halted) = halted_full v w halted
  store_reclaim v w roomy young (inr (read, extent, reads, inl memory)) = let no : refusal.Full ≡ refusal.OutOfMemory = memory.0 in cc
  store_reclaim v w roomy young (inr (read, extent, reads, inr declines)) =
      declined_sweep extent read w (read_state v read roomy reads) young declines

  -- a put is refused so for its own frames
  pub store_put : (v w : View D) (id : ShardId) (bytes : List ℕ) → IsRoomyState disks v → NoneWornIn w
      → DeclinesCopy disks v (Put id bytes) refusal.Full w
      → (ready : View D) × IsMadeReady disks v ready × IsStopped disks ready [] (Put id bytes) refusal.Full w
  store_put v w id bytes roomy young (inl halted) = absurd (halted_full v w halted)
  store_put v w id bytes roomy young (inr (inl memory)) = absurd (let no : refusal.Full ≡ refusal.OutOfMemory = memory.0 in cc)
  store_put v w id bytes roomy young (inr (inr declines)) = declined_full v w (Put id bytes) roomy young declines

  -- nor for the size of its shard, after whatever reads
  pub past_reads : (v w : View D) (id : ShardId) (bytes : List ℕ) → RefusesPut disks v id bytes refusal.Full w
      → (read : View D) × ReadsOn disks v read × DeclinesCopy disks read (Put id bytes) refusal.Full w
  past_reads v w id bytes (read, reads, inl (inl large, is)) = absurd (let no : refusal.Full ≡ refusal.TooLarge = large.0 in cc)
  past_reads v w id bytes (read, reads, inl (inr reserved, is)) = absurd (let no : refusal.Full ≡ refusal.Reserved = reserved.0 in cc)
  past_reads v w id bytes (read, reads, inr declines) = (read, reads, declines)

  pub read_put : (v w : View D) (id : ShardId) (bytes : List ℕ) → IsRoomyState disks v → NoneWornIn w → RefusesPut disks v id bytes refusal.Full w
      → (read : View D) × (ready : View D) × ReadsOn disks v read × IsMadeReady disks read ready × IsStopped disks ready [] (Put id bytes) refusal.Full w
  read_put v w id bytes roomy young refuses =
      let p = past_reads v w id bytes refuses in
      let d = store_put p.0 w id bytes (read_state v p.0 roomy p.1) young p.2 in
      (p.0, d.0, p.1, d.1, d.2)
