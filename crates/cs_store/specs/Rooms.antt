-- Room that is made for an event before it is done.
use Rattle.std.specs.Prelude.{◌≡◌, ◌⊎◌, ◌<◌, ◌≤◌, ℕ, false, length}
use Rattle.cs_refusal.specs.declared.refusals.Refusal.{Refusal}
use Rattle.cs_refusal.specs.declared.refusals.Refusal.TheVariants.{HistoryFull, Unsettled}
use Rattle.cs_disk.specs.declared.disk.PageDisk.{Ghosts as PageDisk}
use Rattle.cs_extent.specs.State.{extents_of}
use Rattle.cs_core.specs.Checkpoints.{IsNotReplaced, Replaces}
use Rattle.cs_core.specs.Views.{View, kept}
use Rattle.cs_writeback.specs.Histories.{MakesRoom}
use Rattle.cs_writeback.specs.Syncs.{StopsSync, Syncs}

-- how it is told that a history isn't replaced after a sync: 41 HistoryFull where the store isn't settled, as an extent
-- is being swept still
abbrev pub room_refusal : Refusal → Refusal
room_refusal Unsettled = HistoryFull
room_refusal refusal = refusal

-- an extent is being swept
abbrev pub IsSweeping : {D : Type 0} → View D → Type 0
IsSweeping v = ¬ ((e : ℕ) → (extents_of v.store.extents).swept e ≡ false)

-- why no event can be kept, also after all was made persistent: none may be kept at all, or an extent is being swept,
-- so that the events that are kept can't be replaced
abbrev pub HasNoRoom : {D : Type 0} → View D → Type 0
HasNoRoom v = (v.limit ≡ 0) ⊎ IsSweeping v

module _ {D : Type 0} (disks : PageDisk D) where
  -- all is made persistent, and then the events that are kept are replaced
  abbrev pub Empties : (full ready : View D) → Type 0
  Empties full ready = (synced : View D) × Syncs disks full synced × (n : ℕ) × Replaces synced n ready

  -- What a store does so that an event can be kept: a checkpoint where at least half as many events are kept as may be
  -- and the store is settled; and where as many are kept as may be all the same, a sync and then a checkpoint.
  pub record IsMadeReady (old ready : View D) : Type 0 where
    pub room : View D
    pub made : MakesRoom old room
    pub rest : ((length (kept room) < room.limit) × (ready ≡ room)) ⊎ ((room.limit ≤ length (kept room)) × Empties room ready)

  -- the sync is refused; or all is made persistent, and the checkpoint after it is refused
  abbrev pub StaysFull : (full : View D) → Refusal → (new : View D) → Type 0
  StaysFull full refusal new = StopsSync disks full refusal new
      ⊎ ((synced : View D) × (why : Refusal) × Syncs disks full synced × IsNotReplaced synced why × (new ≡ synced) × (refusal ≡ room_refusal why))

  -- No room is made: as many events are kept as may be, and the sync, or the checkpoint after it, is refused.
  pub record IsNoRoom (old : View D) (refusal : Refusal) (new : View D) : Type 0 where
    pub full : View D
    pub made : MakesRoom old full
    pub no_more : full.limit ≤ length (kept full)
    pub why : StaysFull full refusal new
