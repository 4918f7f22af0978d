-- Sweeps up to the brim, of the machine.
use Rattle.std.specs.Prelude.{◌≡◌, ◌+◌, ℕ, zero, suc, List}
use Rattle.law_machine.specs.Append.{chunk_frames, page_counts}
use Rattle.law_machine.specs.Device.{Shape}
use Rattle.law_machine.specs.Events.{ArePayloads}
use Rattle.law_machine.specs.Formats.{Formats}
use Rattle.law_machine.specs.Lists.{◌∈◌}
use Rattle.law_machine.specs.State.{Event, Reply, State}
use Rattle.law_machine.specs.Step.{History}
use Rattle.law_room.specs.Brim.{AreFewFor, FitBeside, IsNext, NoneNext, NothingDead, all_dead}
use Rattle.law_room.specs.OfMachine.{IsRoomOf}
use Rattle.law_room.specs.Rooms.{Room, all_pages}
use Rattle.law_room.specs.SweepsOfMachine.{IsSweptIn, IsSyncing}

module _ (S : Shape) (F : Formats) where
  -- no page is dead
  abbrev pub NothingDeadIn : State → Type 0
  NothingDeadIn s = (r : Room) → IsRoomOf S F s r → NothingDead S r

  -- the frames of a put of these bytes fit beside what lives
  abbrev pub FitBesideIn : State → (id : ℕ) → List ℕ → Type 0
  FitBesideIn s id bytes = (r : Room) (command : ℕ) (chunks : List (List ℕ)) → IsRoomOf S F s r
      → ArePayloads S F id command bytes chunks
      → FitBeside S S.run_extents (all_pages r.chunks) (page_counts (chunk_frames S F chunks))

  -- they fit beside what lives and what is dead
  abbrev pub FitBesideAllIn : State → (id : ℕ) → List ℕ → Type 0
  FitBesideAllIn s id bytes = (r : Room) (command : ℕ) (chunks : List (List ℕ)) → IsRoomOf S F s r
      → ArePayloads S F id command bytes chunks
      → FitBeside S S.run_extents (all_pages r.chunks + all_dead r S.extents) (page_counts (chunk_frames S F chunks))

  -- x is to be swept next by the rule; none is
  abbrev pub IsNextIn : State → ℕ → Type 0
  IsNextIn s x = (r : Room) → IsRoomOf S F s r → IsNext S S.run_extents r x

  abbrev pub NoneNextIn : State → Type 0
  NoneNextIn s = (r : Room) → IsRoomOf S F s r → NoneNext S S.run_extents r

  -- chunks of at most c pages each live, and little enough so that n extents are left
  abbrev pub LivesFewFor : (n c : ℕ) → State → Type 0
  LivesFewFor n c s = (r : Room) → IsRoomOf S F s r → AreFewFor S S.run_extents n c r

  -- so many extents are swept one after another by the rule, with syncs between a choice and its sweep or none
  abbrev pub NextSweptIn : ℕ → (s t : State) → Type 0
  NextSweptIn zero s t = t ≡ s
  NextSweptIn (suc n) s t = (x : ℕ) × (rested : State) × (mid : State) × (syncs : List (Event × Reply)) × IsNextIn s x
      × History S F s syncs rested × ((y : Event × Reply) → y ∈ syncs → IsSyncing y.0) × IsSweptIn S F rested x mid
      × NextSweptIn n mid t
