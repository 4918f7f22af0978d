-- Whole sweeps of the machine.
use Rattle.std.specs.Prelude.{◌≡◌, ◌⊎◌, ◌<◌, ◌≤◌, ℕ, zero, suc, List}
use Rattle.law_machine.specs.Device.{Shape}
use Rattle.law_machine.specs.Formats.{Formats}
use Rattle.law_machine.specs.Lists.{◌∈◌}
use Rattle.law_machine.specs.State.{Begin, BeginSweep, End, Event, Get, Issue, MoveOne, Reply, Retire, Retired, Settle, Stage, State, Sweeping}
use Rattle.law_machine.specs.Step.{History, Step}
use Rattle.law_room.specs.OfMachine.{IsRoomOf}
use Rattle.law_room.specs.Rooms.{Room, all_pages, chunk_extents}
use Rattle.law_room.specs.Sweeps.{AreFewPages, IsLeastPair}

-- a move of e: a chunk of it was copied, or none was left, or the move was refused
abbrev pub IsCopying : ℕ → Event → Type 0
IsCopying e (MoveOne d) = d ≡ e
IsCopying e event = ⊥

-- the events of a sync, and those that only read
abbrev pub IsSyncing : Event → Type 0
IsSyncing Stage = Unit {0}
IsSyncing Begin = Unit {0}
IsSyncing Issue = Unit {0}
IsSyncing End = Unit {0}
IsSyncing (Get id) = Unit {0}
IsSyncing (Settle n) = Unit {0}
IsSyncing event = ⊥

-- e is swept: begun, moved and retired, with no other event between; and then there may be syncs
pub record IsSweptIn (S : Shape) (F : Formats) (s : State) (e : ℕ) (t : State) : Type 0 where
  pub begun : State
  pub moved : State
  pub retired : State
  pub version : ℕ
  pub copies : List (Event × Reply)
  pub syncs : List (Event × Reply)
  pub begins : Step S F s (BeginSweep e) Sweeping begun
  pub goes : History S F begun copies moved
  pub copying : (x : Event × Reply) → x ∈ copies → IsCopying e x.0
  pub retires : Step S F moved (Retire e) (Retired version) retired
  pub follows : History S F retired syncs t
  pub syncing : (x : Event × Reply) → x ∈ syncs → IsSyncing x.0

module _ (S : Shape) (F : Formats) where
  -- the least lives on a and b
  abbrev pub IsLeastPairIn : State → (a b : ℕ) → Type 0
  IsLeastPairIn s a b = (r : Room) → IsRoomOf S F s r → IsLeastPair S S.run_extents r a b

  -- fewer extents hold chunks than before; no fewer do
  abbrev pub HoldFewer : (s t : State) → Type 0
  HoldFewer s t = (r q : Room) → IsRoomOf S F s r → IsRoomOf S F t q → chunk_extents q S.extents < chunk_extents r S.extents

  abbrev pub HoldNoFewer : (s t : State) → Type 0
  HoldNoFewer s t = (r q : Room) → IsRoomOf S F s r → IsRoomOf S F t q → chunk_extents r S.extents ≤ chunk_extents q S.extents

  -- the first of such a pair is swept and, where no fewer extents hold chunks then, the second
  abbrev pub IsPairSweptIn : (s t : State) → Type 0
  IsPairSweptIn s t = (a : ℕ) × (b : ℕ) × (mid : State) × IsLeastPairIn s a b × IsSweptIn S F s a mid
      × ((HoldFewer s mid × (t ≡ mid)) ⊎ (HoldNoFewer s mid × IsSweptIn S F mid b t))

  -- less than half of the device lives, but for the extents of runs, one, and n
  abbrev pub LivesFewIn : (n : ℕ) → State → Type 0
  LivesFewIn n s = (r : Room) → IsRoomOf S F s r → AreFewPages S S.run_extents n (all_pages r.chunks)

  -- so many pairs are swept one after another
  abbrev pub PairsSweptIn : ℕ → (s t : State) → Type 0
  PairsSweptIn zero s t = t ≡ s
  PairsSweptIn (suc n) s t = (mid : State) × IsPairSweptIn s mid × PairsSweptIn n mid t
