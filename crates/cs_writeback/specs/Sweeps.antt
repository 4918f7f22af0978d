-- A sweep: how it ends well, where it stops, and how it is abandoned then.
use Rattle.std.specs.Prelude.{◌≡◌, ◌≢◌, ◌⊎◌, ◌∷◌, ◌++◌, ℕ, List, [], length, map}
use Rattle.cs_refusal.specs.declared.refusals.Refusal.{Refusal}
use Rattle.cs_refusal.specs.declared.refusals.Refusal.TheVariants as refusal
use Rattle.cs_disk.specs.declared.disk.PageDisk.{Ghosts as PageDisk}
use Rattle.cs_frame.specs.declared.identifiers.ShardId.{ShardId}
use Rattle.cs_core.specs.declared.events.Event.{Event}
use Rattle.cs_core.specs.declared.events.Event.TheVariants.{Abandon, BeginSweep, MoveOne, Retire}
use Rattle.cs_core.specs.declared.events.Reply.{Reply}
use Rattle.cs_core.specs.declared.events.Reply.TheVariants.{Abandoned, Moved, NoneLive, Retired, Sweeping}
use Rattle.cs_core.specs.Views.{View}
use Rattle.cs_writeback.specs.Histories.{IsStopped, Went}

-- the refusals of a sweep, whatever the disk does: the device or memory refused, a chunk that is to be moved is damaged
-- or another frame lies there, there was no place for what is moved, the extent may not be swept or has something live
-- still, a number was worn out, the store was halted, or as many events are kept as may be
abbrev pub MayRefuseSweep : Refusal → Type 0
MayRefuseSweep refusal.DeviceFault = Unit {0}
MayRefuseSweep refusal.OutOfMemory = Unit {0}
MayRefuseSweep refusal.BadMagic = Unit {0}
MayRefuseSweep refusal.BadDigest = Unit {0}
MayRefuseSweep refusal.BadLength = Unit {0}
MayRefuseSweep refusal.BadPadding = Unit {0}
MayRefuseSweep refusal.BadVersion = Unit {0}
MayRefuseSweep refusal.Misplaced = Unit {0}
MayRefuseSweep refusal.Full = Unit {0}
MayRefuseSweep refusal.NotSweepable = Unit {0}
MayRefuseSweep refusal.StillLive = Unit {0}
MayRefuseSweep refusal.WornOut = Unit {0}
MayRefuseSweep refusal.Halted = Unit {0}
MayRefuseSweep refusal.HistoryFull = Unit {0}
MayRefuseSweep r = ⊥

-- a chunk of each of these identifiers is moved
abbrev pub moves : ℕ → List (ShardId × ℕ) → List (Event × Reply)
moves extent moved = map (λ m. (MoveOne extent, Moved m.0 m.1)) moved

module _ {D : Type 0} (disks : PageDisk D) where
  -- The extent is swept: so many chunks are moved off it, and it is retired under this root.
  pub record Sweeps (extent : ℕ) (old new : View D) (count root : ℕ) : Type 0 where
    pub moved : List (ShardId × ℕ)
    pub counted : count ≡ length moved
    pub went : Went disks old ((BeginSweep extent, Sweeping) ∷ moves extent moved ++ (MoveOne extent, NoneLive) ∷ (Retire extent, Retired root) ∷ []) new

  -- a sweep in which a move is refused, or the Retire once nothing live is left
  abbrev pub StopsSweep : ℕ → View D → View D → Refusal → Type 0
  StopsSweep extent begun mid r = (moved : List (ShardId × ℕ))
      × (IsStopped disks begun (moves extent moved) (MoveOne extent) r mid
      ⊎ IsStopped disks begun (moves extent moved ++ (MoveOne extent, NoneLive) ∷ []) (Retire extent) r mid)

  -- a sweep that was refused so is abandoned, and that refusal is told; or the Abandon is refused too, and where that
  -- is for want of memory, it is what is told
  abbrev pub Abandons : ℕ → View D → View D → (refused told : Refusal) → Type 0
  Abandons extent mid new r told = (Went disks mid ((Abandon extent, Abandoned) ∷ []) new × (told ≡ r))
      ⊎ ((why : Refusal) × IsStopped disks mid [] (Abandon extent) why new
      × (((why ≡ refusal.OutOfMemory) × (told ≡ refusal.OutOfMemory)) ⊎ ((why ≢ refusal.OutOfMemory) × (told ≡ r))))

  -- the sweep can't begin, or it stops later and is abandoned
  abbrev pub IsSweepRefused : ℕ → View D → View D → Refusal → Type 0
  IsSweepRefused extent old new told = IsStopped disks old [] (BeginSweep extent) told new
      ⊎ ((begun : View D) × (mid : View D) × (r : Refusal) × Went disks old ((BeginSweep extent, Sweeping) ∷ []) begun × StopsSweep extent begun mid r
      × Abandons extent mid new r told)
