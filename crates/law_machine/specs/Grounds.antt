-- The grounds of each event's refusals, in their order.
use Rattle.std.specs.Prelude.{◌≡◌, ◌≢◌, ◌⊎◌, ◌+◌, ◌*◌, ◌<◌, ◌≤◌, ℕ, Bool, true, false, List, length, Some, is_some, []}
use Rattle.law_machine.specs.Append.{AppendsChunksBy, AppendsFrame, ResetWorn}
use Rattle.law_machine.specs.Apart.{DamagedLeft, MayStage, NoRoomToCopy, NotSweepableApart, NothingLeft, StagesApart, by_rule, settled}
use Rattle.law_machine.specs.Device.{Shape}
use Rattle.law_machine.specs.Element.{Damaged, Entry, Locator, Run}
use Rattle.law_machine.specs.Events.{ArePayloads, Chunked, Does, Merged, ReadsNow, mark}
use Rattle.law_machine.specs.Extents.{ForMove, ForRun, Purpose}
use Rattle.law_machine.specs.Formats.{ChunkFrame, Formats, RunFrame}
use Rattle.law_machine.specs.Index.{FirstLive, IsTableRun, NothingLive, lookup, weight_with}
use Rattle.law_machine.specs.Machine.{PastGreatest}
use Rattle.law_machine.specs.Merges.{MergesNewest, stage_takes}
use Rattle.law_machine.specs.Refusal.{Full, Halted, InFlight, IndexFull, NoRound, NotSweepable, Refusal, StillLive, TooLarge, WornOut}
use Rattle.law_machine.specs.State.{Abandon, Begin, BeginSweep, Delete, End, Event, Get, Issue, MoveOne, Put, Reply, Retire, Settle, Stage, State, index_now, map_now, next_command}

-- the first of the grounds that stands gives the refusal f: this one gives r, else the others decide
abbrev pub First : Refusal → Type 0 → (Refusal → Type 0) → Refusal → Type 0
First r Ground Others f = (Ground × (f ≡ r)) ⊎ ((Ground → ⊥) × Others f)

-- there are no further grounds
abbrev pub NoMore : Refusal → Type 0
NoMore f = ⊥

-- what is read is damaged and gives the refusal f, else the others decide
abbrev pub FoundDamaged : (Refusal → Type 0) → (Refusal → Type 0) → Refusal → Type 0
FoundDamaged Damage Others f = Damage f ⊎ (((g : Refusal) → Damage g → ⊥) × Others f)

module _ (S : Shape) (F : Formats) where
  -- the first live chunk on the extent is damaged
  abbrev pub DamagedFirst : State → (extent : ℕ) → Refusal → Type 0
  DamagedFirst s e f =
      (id : ℕ) × (chunk : ℕ) × (l : Locator) × FirstLive (index_now s) e id chunk l × (s.opening.damage l ≡ Some f)

  -- the identifier has an entry, a deletion too
  abbrev pub is_named : State → ℕ → Bool
  is_named s id = is_some (lookup id (index_now s))

  -- a number is past its greatest, that of the commands too
  abbrev pub PastLimit : State → Type 0
  PastLimit t = PastGreatest S t.world ⊎ (S.greatest_number < t.count + length t.commands)

  -- what the event does would take a number past its greatest
  abbrev pub WouldPass : State → Event → Type 0
  WouldPass s event = (reply : Reply) × (t : State) × Does S F s event reply t × PastLimit t

  -- with an entry of the chunks of these bytes in place of what the identifier has, the newest entries weigh more than they may
  abbrev pub TooHeavy : State → (id : ℕ) → List ℕ → Type 0
  TooHeavy s id bytes = (pieces : List (List ℕ)) × Chunked (S.piece_bytes (length bytes)) bytes pieces
      × (S.most_weight < weight_with S.weigh (index_now s) id (length pieces))

  -- the chunks of a put of these bytes don't fit
  abbrev pub NoRoomToPut : State → (id : ℕ) → List ℕ → Type 0
  NoRoomToPut s id bytes = (cs : List (List ℕ)) (ls : List Locator) (mid : State)
      → ArePayloads S F id (next_command s) bytes cs → AppendsChunksBy S F S.apart s cs ls mid → ⊥

  -- the table doesn't fit as a run
  abbrev pub NoRoomForTable : State → Type 0
  NoRoomForTable s = (entries : List Entry) (l : Locator) (mid : State)
      → IsTableRun s.table entries → AppendsFrame S F s ForRun RunFrame (F.run entries) l mid → ⊥

  -- what is live doesn't fit as a run
  abbrev pub NoRoomForRun : State → Purpose → Type 0
  NoRoomForRun s purpose = (mid : State) (runs : List Run) → Merged S F s purpose mid runs → ⊥

  -- what a Stage merges doesn't fit as a run
  abbrev pub NoRoomToStage : State → Type 0
  NoRoomToStage s = (mid : State) (runs : List Run) → MergesNewest S F s ForRun (stage_takes S s) mid runs → ⊥

  -- what a Stage merges where chunks and runs lie apart goes nowhere, however much it merges
  abbrev pub NoRoomApart : State → Type 0
  NoRoomApart s = (t : State) → StagesApart S F s t → ⊥

  -- the first live chunk on the extent has nowhere to go
  abbrev pub NoRoomToMove : State → ℕ → Type 0
  NoRoomToMove s e = (id chunk : ℕ) (l new : Locator) (payload : List ℕ) (mid : State)
      → FirstLive (index_now s) e id chunk l → ReadsNow S F s l ChunkFrame payload
      → AppendsFrame S F s ForMove ChunkFrame payload new mid → ⊥

  -- the event is refused with f
  abbrev pub Refuses : State → Event → Refusal → Type 0
  Refuses s (Put id bytes) = First Halted (s.halted ≡ true)
      (First TooLarge (S.most_chunks * S.chunk_bytes < length bytes)
      (First IndexFull (TooHeavy s id bytes)
      (First Full (NoRoomToPut s id bytes)
      (First WornOut (WouldPass s (Put id bytes)) NoMore))))
  Refuses s (Get id) = FoundDamaged (λ f. map_now s id ≡ Some (Damaged f)) NoMore
  Refuses s (Delete id) = First Halted (s.halted ≡ true) (First WornOut (WouldPass s (Delete id)) NoMore)
  Refuses s Stage = First Halted (s.halted ≡ true)
      (First Full (by_rule S.apart ((s.table ≢ []) × NoRoomToStage s) (MayStage S s × NoRoomApart s))
      (First WornOut (WouldPass s Stage) NoMore))
  Refuses s Begin = First Halted (s.halted ≡ true) (First InFlight (s.round_out ≡ true) NoMore)
  Refuses s Issue = First Halted (s.halted ≡ true)
      (First NoRound ((s.round_out ≡ false) ⊎ (s.left ≡ [])) NoMore)
  Refuses s End = First Halted (s.halted ≡ true)
      (First NoRound ((s.round_out ≡ false) ⊎ (s.left ≢ [])) NoMore)
  Refuses s (BeginSweep e) = First Halted (s.halted ≡ true)
      (First NotSweepable (by_rule S.apart
      ((s.world.extents.open_extent ≡ Some e) ⊎ (S.extents ≤ e)
      ⊎ (s.world.extents.pointer e ≡ 0) ⊎ (s.world.extents.swept e ≡ true))
      (NotSweepableApart S s e)) NoMore)
  Refuses s (MoveOne e) = First Halted (s.halted ≡ true)
      (First NotSweepable (s.world.extents.swept e ≡ false)
      (FoundDamaged (λ f. by_rule S.apart (DamagedFirst s e f) (DamagedLeft S F s e f))
      (First Full (by_rule S.apart ((NothingLive (index_now s) e → ⊥) × NoRoomToMove s e)
      ((NothingLeft s e → ⊥) × NoRoomToCopy S F s e))
      (First WornOut (WouldPass s (MoveOne e)) NoMore))))
  Refuses s (Retire e) = First Halted (s.halted ≡ true)
      (First NotSweepable (s.world.extents.swept e ≡ false)
      (First StillLive (by_rule S.apart (NothingLive (index_now s) e → ⊥) (NothingLeft s e → ⊥))
      (First Full (by_rule S.apart (NoRoomForRun s ForMove) (NoRoomApart (settled (mark s e false))))
      (First WornOut (by_rule S.apart (WouldPass s (Retire e))
      (WouldPass s (Retire e) ⊎ ResetWorn S s.world.extents e)) NoMore))))
  Refuses s (Abandon e) = First Halted (s.halted ≡ true)
      (First NotSweepable (s.world.extents.swept e ≡ false) NoMore)
  Refuses s (Settle n) = NoMore
