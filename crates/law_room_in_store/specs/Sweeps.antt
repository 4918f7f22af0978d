-- Whole sweeps of cores, and sweeps of pairs of extents on which the least lives.
use Rattle.std.specs.Prelude.{◌≡◌, ◌⊎◌, ◌<◌, ◌≤◌, ◌+◌, ◌∷◌, ◌++◌, ◌&&◌, ℕ, zero, suc, Bool, not, List, [], if◌then◌else◌}
use Rattle.cs_disk.specs.declared.disk.PageDisk.{Ghosts as PageDisk}
use Rattle.cs_disk.specs.Disk.{State as DiskState}
use Rattle.cs_extent.specs.State.{extents_of, shape}
use Rattle.law_machine.specs.Apart.{is_any_swept}
use Rattle.law_machine.specs.Device.{Shape}
use Rattle.law_machine.specs.Extents.{Extents}
use Rattle.law_machine.specs.Lists.{◌∈◌}
use Rattle.law_room.specs.OfMachine.{holding}
use Rattle.law_room.specs.Rooms.{Empty, Room, all_pages, how_many, is_at, is_of_chunks}
use Rattle.law_room.specs.Sweeps.{IsLeastPair}
use Rattle.cs_core.specs.declared.events.Event.{Event}
use Rattle.cs_core.specs.declared.events.Event.TheVariants.{Begin, BeginSweep, End, Get, Issue, MoveOne, Retire, Settle, Stage}
use Rattle.cs_core.specs.declared.events.Reply.{Reply}
use Rattle.cs_core.specs.declared.events.Reply.TheVariants.{Retired, Sweeping}
use Rattle.cs_core.specs.Checkpoints.{Replaces}
use Rattle.cs_core.specs.Views.{Applies, IsUntouched, View}
use Rattle.law_room_in_store.specs.Cores.{IsRoomIn}

-- One call of a core: an event with its reply; or one that changes nothing of the store, a checkpoint or one for which
-- there was no memory.
pub data Call : Type 0 where
  Asks : (event : Event) (reply : Reply) → Call
  Rests : Call

-- a move of e: a chunk of it was copied, or none was left, or the move was refused; or nothing was changed
abbrev pub IsCopying : ℕ → Call → Type 0
IsCopying e (Asks (MoveOne d) reply) = d ≡ e
IsCopying e (Asks event reply) = ⊥
IsCopying e Rests = Unit {0}

-- an event of a sync or one that only reads, or nothing was changed
abbrev pub IsSyncing : Call → Type 0
IsSyncing (Asks Stage reply) = Unit {0}
IsSyncing (Asks Begin reply) = Unit {0}
IsSyncing (Asks Issue reply) = Unit {0}
IsSyncing (Asks End reply) = Unit {0}
IsSyncing (Asks (Get id) reply) = Unit {0}
IsSyncing (Asks (Settle n) reply) = Unit {0}
IsSyncing (Asks event reply) = ⊥
IsSyncing Rests = Unit {0}

-- The extent that a sweep opened that was given up is set aside, until the next root.
abbrev pub is_set_aside : Shape → Extents → ℕ → Bool
is_set_aside S x e = not (is_any_swept S x) && is_at x.fresh e

-- how many extents hold chunks, those set aside not counted
abbrev pub chunk_extents_in : Shape → Extents → ℕ
chunk_extents_in S x = how_many (λ e. is_of_chunks (if is_set_aside S x e then Empty else holding x e)) S.extents

-- so in a core
abbrev pub chunk_extents_of : {D : Type 0} → View D → ℕ
chunk_extents_of v = chunk_extents_in (shape v.store.extents) (extents_of v.store.extents)

-- n extents are left for puts: beside them and those that hold chunks there are as many as may hold runs, and two
abbrev pub AreLeftForPuts : {D : Type 0} → ℕ → View D → Type 0
AreLeftForPuts n v = chunk_extents_of v + n + (shape v.store.extents).run_extents + 2 ≤ (shape v.store.extents).extents

module _ {D : Type 0} (state : D → DiskState) where
  -- at most so many pages of chunks live
  abbrev pub LiveAtMost : View D → ℕ → Type 0
  LiveAtMost v pages = (r : Room) → IsRoomIn state v r → all_pages r.chunks ≤ pages

  -- of all extents that hold chunks the least lives on a and b
  abbrev pub AreLeast : View D → (a b : ℕ) → Type 0
  AreLeast v a b = (r : Room) → IsRoomIn state v r → IsLeastPair (shape v.store.extents) (shape v.store.extents).run_extents r a b

module _ {D : Type 0} (disks : PageDisk D) where
  -- the call led from v to w
  abbrev pub IsMade : View D → Call → View D → Type 0
  IsMade v (Asks event reply) w = Applies disks v event reply w
  IsMade v Rests w = IsUntouched disks v w ⊎ ((n : ℕ) × Replaces v n w)

  -- these calls led from v to w one after another, and the disk's honesty stayed
  abbrev pub AreMade : View D → List Call → View D → Type 0
  AreMade v [] w = w ≡ v
  AreMade v (c ∷ cs) w = (mid : View D) × IsMade v c mid × (disks.honest v.disk → disks.honest mid.disk) × AreMade mid cs w

  -- e was swept: begun, copied and retired, with no other event between; and then there may have been syncs
  pub record IsSweptBy (v : View D) (e : ℕ) (w : View D) : Type 0 where
    pub version : ℕ
    pub copies : List Call
    pub syncs : List Call
    pub made : AreMade v (Asks (BeginSweep e) Sweeping ∷ copies ++ Asks (Retire e) (Retired version) ∷ syncs) w
    pub copying : (c : Call) → c ∈ copies → IsCopying e c
    pub syncing : (c : Call) → c ∈ syncs → IsSyncing c

  -- the first of two extents with the least was swept and, where no fewer extents hold chunks then, the second
  abbrev pub IsPairSweptBy : View D → View D → Type 0
  IsPairSweptBy v w = (a : ℕ) × (b : ℕ) × (mid : View D) × AreLeast disks.state v a b × IsSweptBy v a mid
      × (((chunk_extents_of mid < chunk_extents_of v) × (w ≡ mid))
      ⊎ ((chunk_extents_of v ≤ chunk_extents_of mid) × IsSweptBy mid b w))

  -- so many pairs were swept one after another
  abbrev pub PairsSweptBy : ℕ → View D → View D → Type 0
  PairsSweptBy zero v w = w ≡ v
  PairsSweptBy (suc n) v w = (mid : View D) × IsPairSweptBy v mid × PairsSweptBy n mid w
