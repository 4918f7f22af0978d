-- Sweeps of the machine by the rule are sweeps of room by the rule.
use Rattle.std.proofs.Common.{◌≡◌, ℕ, zero, suc, ◌+◌, ◌*◌, ◌≤◌, true, false, List, None, refl, sym, subst, arith}
use Rattle.law_machine.specs.Apart.{any_swept}
use Rattle.law_machine.specs.Device.{IsShape, Shape}
use Rattle.law_machine.specs.Formats.{Formats}
use Rattle.law_machine.specs.Frames.{IsFormat}
use Rattle.law_machine.specs.Grounds.{Refuses}
use Rattle.law_machine.specs.Refusal.{Full}
use Rattle.law_machine.specs.State.{Put, State}
use Rattle.law_room.proofs.BrimRuns.{along, most_until_none}
use Rattle.law_room.proofs.MachineBrim.{beside_all_in, put_not_full}
use Rattle.law_room.proofs.MachineLives.{life_room}
use Rattle.law_room.proofs.MachineSteps.{young_history}
use Rattle.law_room.proofs.MachineSwept.{sweep_room, syncs, young_swept}
use Rattle.law_room.proofs.MachineSweeps.{no_sweep}
use Rattle.law_room.specs.Brim.{NextSwept, dead_extents}
use Rattle.law_room.specs.BrimOfMachine.{FitBesideAllIn, FitBesideIn, NextSweptIn, NoneNextIn, NothingDeadIn}
use Rattle.law_room.specs.Lives.{Act, IsFormatWithRoom, IsMade, Lives}
use Rattle.law_room.specs.OfMachine.{HasRoomNow, NoneWorn}
use Rattle.law_room.specs.RootsOfMachine.{IsRoomy}
use Rattle.law_room.specs.Rooms.{Room, chunk_extents}

module _ (S : Shape) (F : Formats) (shape : IsShape S) (format : IsFormat S F) (apart : S.apart ≡ true) where
  young_next : (k : ℕ) (s t : State) → NextSweptIn S F k s t → NoneWorn S t → NoneWorn S s
  young_next zero s t is young = subst (λ (x : State). NoneWorn S x) is young
  young_next (suc k) s t (x, rested, mid, events, next, goes, syncing, swept, rest) young =
      young_history S F shape format apart s rested events goes
      (young_swept S F shape format apart rested mid x swept (young_next k mid t rest young))

  pub rule_room : (k : ℕ) (s t : State) (r : Room) → HasRoomNow S F s r → NextSweptIn S F k s t → NoneWorn S t
      → (q : Room) × NextSwept S S.run_extents k r q × HasRoomNow S F t q
  rule_room zero s t r has is young = (r, refl, subst (λ (x : State). HasRoomNow S F x r) (sym is) has)
  rule_room (suc k) s t r has (x, rested, mid, events, next, goes, syncing, swept, rest) young =
      let young_mid : NoneWorn S mid = young_next k mid t rest young in
      let young_rested : NoneWorn S rested = young_swept S F shape format apart rested mid x swept young_mid in
      let one = syncs S F shape format apart s rested r events has goes young_rested syncing in
      let two = sweep_room S F shape format apart rested mid one.1 x one.3 swept young_mid in
      let others = rule_room k mid t two.0 two.2 rest young in
      (others.0, (x, one.1, two.0, one.0, next r has.room, one.2, two.1, others.1), others.2)

module _ (S : Shape) (F : Formats) (shape : IsShape S) (format : IsFormat S F) (filled : S.fills ≡ true) where
  pub rule_ends : (k : ℕ) (s t : State) (r : Room) → HasRoomNow S F s r → NextSweptIn S F k s t → NoneWorn S t
      → NoneNextIn S F t → (q : Room) × HasRoomNow S F t q
      × (k + 2 * chunk_extents q S.extents ≤ dead_extents r S.extents + 2 * chunk_extents r S.extents)
  rule_ends k s t r has swept young none =
      let apart = shape.fills filled in
      let end = rule_room S F shape format apart k s t r has swept young in
      let few : k + dead_extents end.0 S.extents + 2 * chunk_extents end.0 S.extents
      ≤ dead_extents r S.extents + 2 * chunk_extents r S.extents = most_until_none S S.run_extents k r end.0 (shape.apart apart).2
      filled has.keeps end.1 (none end.0 end.2.room).no_two in
      (end.0, end.2, omega arith)

  module _ (fit : IsFormatWithRoom S F) (s t : State) (acts : List Act) (made : IsMade S F s) (lives : Lives S F s acts t)
      (idle : any_swept S t ≡ false) where
    found : (r : Room) × IsRoomy S F t r
    found = life_room S F shape format fit (shape.fills filled) s t acts made lives

    rests : found.0.sweep ≡ None
    rests = no_sweep S t found.0.sweep idle found.1.room.room.sweep

    pub life_fits : (id : ℕ) (bytes : List ℕ) → FitBesideAllIn S F t id bytes → Refuses S F t (Put id bytes) Full → ⊥
    life_fits id bytes fits full = put_not_full S F shape format filled t found.0 id bytes found.1.room rests fits full

    pub life_beside : (id : ℕ) (bytes : List ℕ) → NothingDeadIn S F t → FitBesideIn S F t id bytes
        → Refuses S F t (Put id bytes) Full → ⊥
    life_beside id bytes nothing fits full =
        life_fits id bytes (beside_all_in S F shape format filled t id bytes nothing fits) full

    pub life_swept : (k : ℕ) (u : State) (id : ℕ) (bytes : List ℕ) → NextSweptIn S F k t u → NoneWorn S u → NoneNextIn S F u
        → FitBesideIn S F u id bytes → Refuses S F u (Put id bytes) Full → ⊥
    life_swept k u id bytes swept young none fits full =
        let end = rule_room S F shape format (shape.fills filled) k t u found.0 found.1.room swept young in
        let left = along S S.run_extents k found.0 end.0 (shape.apart (shape.fills filled)).2 found.1.room.keeps rests end.1 in
        put_not_full S F shape format filled u end.0 id bytes end.2 left.1
        (beside_all_in S F shape format filled u id bytes (λ r is. (none r is).nothing) fits) full
