-- Each event of the machine is one of room, or leaves room as it is.
use Rattle.std.proofs.Common.{◌≡◌, inl, inr, ⊎_elim, suc, ◌<◌, true, false, List, [], ◌∷◌, refl, sym, ap, ◌∙◌, subst, arith}
use Rattle.law_machine.proofs.ApartExtents.{step_leaves}
use Rattle.law_machine.proofs.Keeps.{steps}
use Rattle.law_machine.proofs.Quiet.{none_moved, unchanged}
use Rattle.law_machine.specs.Apart.{Grows, IsFreed}
use Rattle.law_machine.specs.Device.{IsShape, Shape}
use Rattle.law_machine.specs.Events.{issued_one}
use Rattle.law_machine.specs.Formats.{Formats}
use Rattle.law_machine.specs.Frames.{IsFormat}
use Rattle.law_machine.specs.Sound.{Bounded, Sound}
use Rattle.law_machine.specs.State.{Abandon, Abandoned, Absent, Accepted, Begin, BeginSweep, Begun, Delete, End, Ended, Event, Found, Get, Issue, Issued, MoveOne, Moved, NoneLive, NotYet, Nothing, Persistent, Put, Refused, Reply, Retire, Retired, Settle, Stage, Staged, State, Sweeping, Unchanged, next_command}
use Rattle.law_machine.specs.Step.{History, Step}
use Rattle.law_room.proofs.MachineCopies.{move_room}
use Rattle.law_room.proofs.MachineEvents.{delete_room, put_room}
use Rattle.law_room.proofs.MachineFreed.{sweep_moves}
use Rattle.law_room.proofs.MachineRetire.{retire_room}
use Rattle.law_room.proofs.MachineStaged.{stage_room}
use Rattle.law_room.proofs.MachineSweeps.{abandon_room, begin_room}
use Rattle.law_room.specs.OfMachine.{HasRoomNow, InRoom, IsRoomOf, NoneWorn}
use Rattle.law_room.specs.Rooms.{Room}

module _ (S : Shape) (F : Formats) (shape : IsShape S) (format : IsFormat S F) (apart : S.apart ≡ true) where
  -- the state with other marks of a round
  abbrev marks : State → State → State
  marks s u = record s {
    world = record s.world { persistent = u.world.persistent; round = u.world.round };
    round_out = u.round_out;
    left = u.left;
    issued = u.issued;
    halted = u.halted;
  }

  same_room : (s t u : State) (r : Room) → t ≡ marks s u → HasRoomNow S F s r → Sound S F t × Bounded S F t → HasRoomNow S F t r
  same_room s t u r is has kept = record {
    sound = kept.0;
    bounded = kept.1;
    room = subst (λ (x : State). IsRoomOf S F x r) (sym is) (record {
      extents = has.room.extents;
      chunks = has.room.chunks;
      runs = has.room.runs;
      rooted = has.room.rooted;
      sweep = sweep_moves S s (marks s u) r.sweep refl refl refl has.room.sweep;
    });
    keeps = has.keeps;
    unopened = λ none. ap (λ (x : State). x.world.extents.fresh) is
        ∙ has.unopened (sym (ap (λ (x : State). x.copies) is) ∙ none);
  }

  there : (s t : State) (r : Room) → t ≡ s → HasRoomNow S F s r → (q : Room) × (q ≡ r) × HasRoomNow S F t q
  there s t r is has = (r, refl, subst (λ (x : State). HasRoomNow S F x r) (sym is) has)

  marked : (s t u : State) (r : Room) → t ≡ marks s u → HasRoomNow S F s r → Sound S F t × Bounded S F t
      → (q : Room) × (q ≡ r) × HasRoomNow S F t q
  marked s t u r is has kept = (r, refl, same_room s t u r is has kept)

  module _ (s t : State) (r : Room) (has : HasRoomNow S F s r) (young : NoneWorn S t) where
    pub step_room : (event : Event) (reply : Reply) → Step S F s event reply t
        → (q : Room) × InRoom S F event reply r q × HasRoomNow S F t q
    step_room (Put id bytes) (Accepted n) step = let o = put_room S F shape format apart s t r id n bytes has step in
        (o.2.0, (next_command s, o.0, o.1, o.2.1), o.2.2)
    step_room (Get id) (Found bytes) step = there s t r step.1.1 has
    step_room (Get id) Absent step = there s t r step.1.1 has
    step_room (Delete id) (Accepted n) step = delete_room S F shape format apart s t r id n has step
    step_room (Delete id) Absent step = there s t r step.1.1 has
    step_room Stage Unchanged step = there s t r (unchanged S F s t step.1) has
    step_room Stage (Staged v) step = let o = stage_room S F shape format apart s t r v has step young in
        (o.3, (o.0, o.1, o.2, o.4), o.5)
    step_room Begin Nothing step = there s t r step.1.2 has
    step_room Begin (Begun members) step =
        marked s t (record s {
          world = record s.world { round = step.1.1 };
          round_out = true;
          left = members;
          issued = [];
        }) r step.1.6 has (steps S F shape format s t Begin (Begun members) has.sound has.bounded step)
    step_room Issue (Issued m) step = marked s t (issued_one S F s step.1.0 m step.1.1) r step.1.3 has
        (steps S F shape format s t Issue (Issued m) has.sound has.bounded step)
    step_room End (Ended n) step = marked s t (record s {
      world = record s.world { persistent = s.world.round };
      round_out = false;
      left = [];
      issued = [];
    }) r step.1.2 has
        (steps S F shape format s t End (Ended n) has.sound has.bounded step)
    step_room (BeginSweep e) Sweeping step = begin_room S F shape format apart s t r e has step
    step_room (MoveOne e) NoneLive step = there s t r (none_moved S F s t e step.1) has
    step_room (MoveOne e) (Moved id k) step = move_room S F shape format apart s t r e id k has step
    step_room (Retire e) (Retired v) step = let o = retire_room S F shape format apart s t r e v has step young in
        (o.3, (o.0, o.1, o.2, o.4), o.5)
    step_room (Abandon e) Abandoned step = abandon_room S F shape format apart s t r e has step
    step_room (Settle n) Persistent step = there s t r step.1.4 has
    step_room (Settle n) (NotYet f) step = there s t r step.1.2 has
    step_room Issue (Refused f) (inl same) = there s t r same.1 has
    step_room Issue (Refused f) (inr fault) =
        let kept = steps S F shape format s t Issue (Refused f) has.sound has.bounded (inr fault) in ⊎_elim
        (λ (is : t ≡ record s { halted = true }). marked s t (record s { halted = true }) r is has kept)
        (λ w. marked s t (record (issued_one S F s w.1 w.0 w.2) { halted = true }) r w.4 has kept) fault.2
    step_room End (Refused f) (inl same) = there s t r same.1 has
    step_room End (Refused f) (inr fault) = marked s t (record s { halted = true }) r fault.2 has
        (steps S F shape format s t End (Refused f) has.sound has.bounded (inr fault))
    step_room event (Refused f) step = there s t r step.1 has
    step_room event reply step = absurd step.1

  -- generations only rise
  pub young_step : (s t : State) (event : Event) (reply : Reply) → Step S F s event reply t → NoneWorn S t → NoneWorn S s
  young_step s t event reply step young e lt = ⊎_elim
      (λ (grows : Grows s t e). (let later : t.world.extents.generation e < S.greatest_generation = young e lt in
      let same : t.world.extents.generation e ≡ s.world.extents.generation e = grows.0 in omega arith))
      (λ (freed : IsFreed s t e). (let later : t.world.extents.generation e < S.greatest_generation = young e lt in
      let up : t.world.extents.generation e ≡ suc (s.world.extents.generation e) = freed.generation in omega arith))
      (step_leaves S F shape apart s t event reply step e)

  pub young_history : (s t : State) (history : List (Event × Reply)) → History S F s history t → NoneWorn S t → NoneWorn S s
  young_history s t [] is young = subst (λ (x : State). NoneWorn S x) is young
  young_history s t (x ∷ xs) (mid, step, rest) young =
      young_step s mid x.0 x.1 step (young_history mid t xs rest young)

  pub history_room : (s t : State) (r : Room) (history : List (Event × Reply)) → HasRoomNow S F s r → History S F s history t
      → NoneWorn S t → (q : Room) × HasRoomNow S F t q
  history_room s t r [] has is young = (r, subst (λ (x : State). HasRoomNow S F x r) (sym is) has)
  history_room s t r (x ∷ xs) has (mid, step, rest) young =
      let one = step_room s mid r has (young_history mid t xs rest young) x.0 x.1 step in
      history_room mid t one.0 xs one.2 rest young
