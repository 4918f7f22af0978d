-- A whole sweep of the machine is one of room.
use Rattle.std.proofs.Common.{◌≡◌, ◌⊎◌, inl, inr, ℕ, zero, suc, true, List, [], ◌∷◌, refl, sym, subst}
use Rattle.law_machine.specs.Device.{IsShape, Shape}
use Rattle.law_machine.specs.Formats.{Formats}
use Rattle.law_machine.specs.Frames.{IsFormat}
use Rattle.law_machine.specs.Lists.{◌∈◌}
use Rattle.law_machine.specs.State.{Begin, BeginSweep, End, Event, Get, Issue, MoveOne, Moved, Reply, Retire, Retired, Settle, Stage, Staged, State, Sweeping}
use Rattle.law_machine.specs.Step.{History}
use Rattle.law_room.proofs.MachineSteps.{step_room, young_history, young_step}
use Rattle.law_room.specs.Events.{Does as RoomDoes, MoveOne as MoveInRoom, Stage as StageInRoom}
use Rattle.law_room.specs.OfMachine.{HasRoomNow, InRoom, NoneWorn}
use Rattle.law_room.specs.Rooms.{Room}
use Rattle.law_room.specs.Sweeps.{IsPairSwept, IsSwept, Moves, PairsSwept, Syncs}
use Rattle.law_room.specs.SweepsOfMachine.{IsCopying, IsPairSweptIn, IsSweptIn, IsSyncing, PairsSweptIn}

module _ (S : Shape) (F : Formats) (shape : IsShape S) (format : IsFormat S F) (apart : S.apart ≡ true) where
  copy_step : (e : ℕ) (event : Event) (reply : Reply) (r q : Room) → IsCopying e event → InRoom S F event reply r q
      → (q ≡ r) ⊎ RoomDoes S S.run_extents r MoveInRoom q
  copy_step e (MoveOne d) (Moved id k) r q is does = inr does
  copy_step e (MoveOne d) reply r q is does = inl does
  copy_step e event reply r q none does = absurd none

  moves : (e : ℕ) (s t : State) (r : Room) (history : List (Event × Reply)) → HasRoomNow S F s r → History S F s history t
      → NoneWorn S t → ((x : Event × Reply) → x ∈ history → IsCopying e x.0)
      → (n : ℕ) × (q : Room) × Moves S S.run_extents n r q × HasRoomNow S F t q
  moves e s t r [] has is young all = (0, r, refl, subst (λ (x : State). HasRoomNow S F x r) (sym is) has)
  moves e s t r (x ∷ xs) has (mid, step, rest) young all =
      let one = step_room S F shape format apart s mid r has (young_history S F shape format apart mid t xs rest young) x.0 x.1
      step in
      let others = moves e mid t one.0 xs one.2 rest young (λ y there. all y (inr there)) in
      go one.0 (copy_step e x.0 x.1 r one.0 (all x (inl refl)) one.1) others
    where
      go : (m : Room) → (m ≡ r) ⊎ RoomDoes S S.run_extents r MoveInRoom m
          → ((n : ℕ) × (q : Room) × Moves S S.run_extents n m q × HasRoomNow S F t q)
          → (n : ℕ) × (q : Room) × Moves S S.run_extents n r q × HasRoomNow S F t q
      go m (inl same) (n, q, more, done) = (n, q, subst (λ (x : Room). Moves S S.run_extents n x q) same more, done)
      go m (inr does) (n, q, more, done) = (suc n, q, (m, does, more), done)

  sync_step : (event : Event) (reply : Reply) (r q : Room) → IsSyncing event → InRoom S F event reply r q
      → (q ≡ r) ⊎ ((newest : ℕ) × (pages : ℕ) × (all : ℕ) × RoomDoes S S.run_extents r (StageInRoom newest pages all) q)
  sync_step Stage (Staged v) r q is does = inr does
  sync_step Stage reply r q is does = inl does
  sync_step Begin reply r q is does = inl does
  sync_step Issue reply r q is does = inl does
  sync_step End reply r q is does = inl does
  sync_step (Get id) reply r q is does = inl does
  sync_step (Settle n) reply r q is does = inl does
  sync_step event reply r q none does = absurd none

  pub syncs : (s t : State) (r : Room) (history : List (Event × Reply)) → HasRoomNow S F s r → History S F s history t
      → NoneWorn S t → ((x : Event × Reply) → x ∈ history → IsSyncing x.0)
      → (n : ℕ) × (q : Room) × Syncs S S.run_extents n r q × HasRoomNow S F t q
  syncs s t r [] has is young all = (0, r, refl, subst (λ (x : State). HasRoomNow S F x r) (sym is) has)
  syncs s t r (x ∷ xs) has (mid, step, rest) young all =
      let one = step_room S F shape format apart s mid r has (young_history S F shape format apart mid t xs rest young) x.0 x.1
      step in
      let others = syncs mid t one.0 xs one.2 rest young (λ y there. all y (inr there)) in
      go one.0 (sync_step x.0 x.1 r one.0 (all x (inl refl)) one.1) others
    where
      go : (m : Room) → (m ≡ r) ⊎ ((newest : ℕ) × (pages : ℕ) × (all : ℕ)
          × RoomDoes S S.run_extents r (StageInRoom newest pages all) m)
          → ((n : ℕ) × (q : Room) × Syncs S S.run_extents n m q × HasRoomNow S F t q)
          → (n : ℕ) × (q : Room) × Syncs S S.run_extents n r q × HasRoomNow S F t q
      go m (inl same) (n, q, more, done) = (n, q, subst (λ (x : Room). Syncs S S.run_extents n x q) same more, done)
      go m (inr (newest, pages, all, does)) (n, q, more, done) =
          (suc n, q, (StageInRoom newest pages all, m, tt, does, more), done)

  pub sweep_room : (s t : State) (r : Room) (e : ℕ) → HasRoomNow S F s r → IsSweptIn S F s e t → NoneWorn S t
      → (q : Room) × IsSwept S S.run_extents r e q × HasRoomNow S F t q
  sweep_room s t r e has swept young =
      let young_retired = young_history S F shape format apart swept.retired t swept.syncs swept.follows young in
      let young_moved = young_step S F shape format apart swept.moved swept.retired (Retire e) (Retired swept.version)
      swept.retires young_retired in
      let young_begun = young_history S F shape format apart swept.begun swept.moved swept.copies swept.goes young_moved in
      let one = step_room S F shape format apart s swept.begun r has young_begun (BeginSweep e) Sweeping swept.begins in
      let two = moves e swept.begun swept.moved one.0 swept.copies one.2 swept.goes young_moved swept.copying in
      let three = step_room S F shape format apart swept.moved swept.retired two.1 two.3 young_retired (Retire e)
      (Retired swept.version) swept.retires in
      let four = syncs swept.retired t three.0 swept.syncs three.2 swept.follows young swept.syncing in (
        four.1,
        record {
          begun = one.0;
          moved = two.1;
          retired = three.0;
          moves = two.0;
          newest = three.1.0;
          pages = three.1.1;
          all = three.1.2;
          events = four.0;
          begins = one.1;
          goes = two.2;
          retires = three.1.3;
          syncs = four.2;
        },
        four.3,
      )

  pub young_swept : (s t : State) (e : ℕ) → IsSweptIn S F s e t → NoneWorn S t → NoneWorn S s
  young_swept s t e swept young = young_step S F shape format apart s swept.begun (BeginSweep e) Sweeping swept.begins
      (young_history S F shape format apart swept.begun swept.moved swept.copies swept.goes
      (young_step S F shape format apart swept.moved swept.retired (Retire e) (Retired swept.version) swept.retires
      (young_history S F shape format apart swept.retired t swept.syncs swept.follows young)))

  young_pair : (s t : State) → IsPairSweptIn S F s t → NoneWorn S t → NoneWorn S s
  young_pair s t (a, b, mid, least, first, inl (fewer, is)) young =
      young_swept s mid a first (subst (λ (x : State). NoneWorn S x) is young)
  young_pair s t (a, b, mid, least, first, inr (more, second)) young =
      young_swept s mid a first (young_swept mid t b second young)

  young_pairs : (n : ℕ) (s t : State) → PairsSweptIn S F n s t → NoneWorn S t → NoneWorn S s
  young_pairs zero s t is young = subst (λ (x : State). NoneWorn S x) is young
  young_pairs (suc n) s t (mid, pair, rest) young = young_pair s mid pair (young_pairs n mid t rest young)

  pair_room : (s t : State) (r : Room) → HasRoomNow S F s r → IsPairSweptIn S F s t → NoneWorn S t
      → (q : Room) × IsPairSwept S S.run_extents r q × HasRoomNow S F t q
  pair_room s t r has (a, b, mid, least, first, inl (fewer, is)) young =
      let one = sweep_room s mid r a has first (subst (λ (x : State). NoneWorn S x) is young) in (
        one.0,
        (a, b, one.0, least r has.room, one.1, inl (fewer r one.0 has.room one.2.room, refl)),
        subst (λ (x : State). HasRoomNow S F x one.0) (sym is) one.2,
      )
  pair_room s t r has (a, b, mid, least, first, inr (more, second)) young =
      let one = sweep_room s mid r a has first (young_swept mid t b second young) in
      let two = sweep_room mid t one.0 b one.2 second young in (
        two.0,
        (a, b, one.0, least r has.room, one.1, inr (more r one.0 has.room one.2.room, two.1)),
        two.2,
      )

  pub pairs_room : (n : ℕ) (s t : State) (r : Room) → HasRoomNow S F s r → PairsSweptIn S F n s t → NoneWorn S t
      → (q : Room) × PairsSwept S S.run_extents n r q × HasRoomNow S F t q
  pairs_room zero s t r has is young = (r, refl, subst (λ (x : State). HasRoomNow S F x r) (sym is) has)
  pairs_room (suc n) s t r has (mid, pair, rest) young =
      let one = pair_room s mid r has pair (young_pairs n mid t rest young) in
      let others = pairs_room n mid t one.0 one.2 rest young in (others.0, (one.0, one.1, others.1), others.2)
