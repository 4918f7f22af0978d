-- Sweeps of a core are sweeps of the machine, and a put finds room behind them.
use Rattle.std.proofs.Common.{◌≡◌, inl, inr, ℕ, zero, suc, ◌+◌, ◌<◌, true, ◌∷◌, ◌++◌, if◌then◌else◌, Bool, refl, sym, ap, ap₂, ◌∙◌, subst, arith}
use Rattle.cs_refusal.specs.declared.refusals.Refusal.TheVariants.{HistoryFull}
use Rattle.cs_disk.specs.declared.disk.PageDisk.{Ghosts as PageDisk}
use Rattle.cs_extent.specs.State.{extents_of}
use Rattle.cs_frame.specs.Formats.{formats_of}
use Rattle.law_machine.specs.Device.{IsShape, Shape}
use Rattle.law_machine.specs.Extents.{Extents}
use Rattle.law_machine.specs.Formats.{Formats}
use Rattle.law_machine.specs.Frames.{IsFormat}
use Rattle.law_machine.specs.State as model
use Rattle.law_machine.specs.Step.{Step}
use Rattle.law_room.proofs.MachineSteps.{young_history, young_step}
use Rattle.law_room.specs.OfMachine.{IsRoomOf, NoneWorn, holding}
use Rattle.law_room.specs.Rooms.{Empty, Room, chunk_extents, how_many, is_of_chunks}
use Rattle.law_room.specs.Sweeps.{IsLeastPair}
use Rattle.law_room.specs.SweepsOfMachine.{HoldFewer, HoldNoFewer, IsCopying as CopyingInMachine, IsLeastPairIn, IsPairSweptIn, IsSweptIn, IsSyncing as SyncingInMachine, PairsSweptIn}
use Rattle.cs_core.specs.declared.events.Event.TheVariants.{Begin, BeginSweep, End, Get, Issue, MoveOne, Retire, Settle, Stage}
use Rattle.cs_core.specs.declared.events.Reply.TheVariants.{Refused, Retired, Sweeping}
use Rattle.cs_core.specs.Views.{View}
use Rattle.law_room_in_store.proofs.CoreSteps.{IsAt, IsStepTo, Leads, Translates, answered, calls_lead, split}
use Rattle.law_room_in_store.specs.Cores.{IsRoomIn}
use Rattle.law_room_in_store.specs.Sweeps.{AreLeast, AreMade, Asks, Call, IsCopying, IsPairSweptBy, IsSweptBy, IsSyncing, PairsSweptBy, Rests, chunk_extents_in, chunk_extents_of, is_set_aside}

-- as many numbers pass one test as the other
count_same : (f g : ℕ → Bool) (n : ℕ) → ((e : ℕ) → e < n → f e ≡ g e) → how_many f n ≡ how_many g n
count_same f g zero same = refl
count_same f g (suc n) same = ap₂ (λ (b : Bool) (k : ℕ). (if b then 1 else 0) + k) (same n (omega arith))
    (count_same f g n (λ e lt. same e (omega arith)))

module _ {D : Type 0} (disks : PageDisk D) (S : Shape) where
  abbrev F : Formats
  F = formats_of S

  -- the room of the state is one of the core
  pub room_in : (v : View D) (s : model.State) (r : Room) → IsAt disks S v s → IsRoomOf S F s r → IsRoomIn disks.state v r
  room_in v s r at room = record {
    of_state = s;
    is_in = at.is_in;
    room = subst (λ (T : Shape). IsRoomOf T (formats_of T) s r) (sym at.same) room;
  }

  -- and as many of its extents hold chunks
  pub chunks_counted : (v : View D) (s : model.State) (r : Room) → IsAt disks S v s → IsRoomOf S F s r
      → chunk_extents r S.extents ≡ chunk_extents_of v
  chunks_counted v s r at room =
      count_same (λ e. is_of_chunks (r.holds e))
      (λ e. is_of_chunks (if is_set_aside S s.world.extents e then Empty else holding s.world.extents e)) S.extents
      (λ e lt. ap is_of_chunks (room.extents.holds e lt))
      ∙ ap (λ (x : Extents). chunk_extents_in S x) at.is_in.store.parts.world.extents
      ∙ ap (λ (T : Shape). chunk_extents_in T (extents_of v.store.extents)) (sym at.same)

  copies_translate : (e : ℕ) (c : Call) → IsCopying e c
      → Translates disks S c (λ (x : model.Event × model.Reply). CopyingInMachine e x.0)
  copies_translate e (Asks (MoveOne d) reply) is = λ m says. is
  copies_translate e (Asks event reply) none = absurd none
  copies_translate e Rests is = tt

  syncs_translate : (c : Call) → IsSyncing c → Translates disks S c (λ (x : model.Event × model.Reply). SyncingInMachine x.0)
  syncs_translate (Asks Stage reply) is = λ m says. tt
  syncs_translate (Asks Begin reply) is = λ m says. tt
  syncs_translate (Asks Issue reply) is = λ m says. tt
  syncs_translate (Asks End reply) is = λ m says. tt
  syncs_translate (Asks (Get id) reply) is = λ m says. tt
  syncs_translate (Asks (Settle n) reply) is = λ m says. tt
  syncs_translate (Asks event reply) none = absurd none
  syncs_translate Rests is = tt

  -- a whole sweep
  pub sweep_in : (v w : View D) (e : ℕ) (s : model.State) → IsAt disks S v s → IsSweptBy disks v e w
      → (t : model.State) × IsAt disks S w t × IsSweptIn S F s e t
  sweep_in v w e s at swept = begin swept.made
    where
      begin : AreMade disks v (Asks (BeginSweep e) Sweeping ∷ swept.copies ++ Asks (Retire e) (Retired swept.version) ∷ swept.syncs) w
          → (t : model.State) × IsAt disks S w t × IsSweptIn S F s e t
      begin (begun, begins, stays, more) =
          let parts = split disks S swept.copies (Asks (Retire e) (Retired swept.version) ∷ swept.syncs) begun w more in
          let one = answered disks S v begun (BeginSweep e) Sweeping s at stays
          (λ wrong. let no : Sweeping ≡ Refused HistoryFull = wrong in cc) begins in
          let two = calls_lead disks S (λ (x : model.Event × model.Reply). CopyingInMachine e x.0) swept.copies begun parts.0
          one.then_in one.here (λ c there. copies_translate e c (swept.copying c there)) parts.1 in
          retire parts.0 one two parts.2
        where
          retire : (moved : View D) (one : IsStepTo disks S s (BeginSweep e) Sweeping begun)
              (two : Leads disks S (λ (x : model.Event × model.Reply). CopyingInMachine e x.0) one.then_in moved)
              → AreMade disks moved (Asks (Retire e) (Retired swept.version) ∷ swept.syncs) w
              → (t : model.State) × IsAt disks S w t × IsSweptIn S F s e t
          retire moved one two (retired, retires, keeps, follows) =
              let three = answered disks S moved retired (Retire e) (Retired swept.version) two.then_in two.here keeps
              (λ wrong. let no : Retired swept.version ≡ Refused HistoryFull = wrong in cc) retires in
              let four = calls_lead disks S (λ (x : model.Event × model.Reply). SyncingInMachine x.0) swept.syncs retired w
              three.then_in three.here (λ c there. syncs_translate c (swept.syncing c there)) follows in (
                four.then_in,
                four.here,
                record {
                  begun = one.then_in;
                  moved = two.then_in;
                  retired = three.then_in;
                  version = swept.version;
                  copies = two.events;
                  syncs = four.events;
                  begins = subst (λ (m : model.Reply). Step S F s (model.BeginSweep e) m one.then_in) one.says one.step;
                  goes = two.run;
                  copying = two.all;
                  retires = subst (λ (m : model.Reply). Step S F two.then_in (model.Retire e) m three.then_in) three.says three.step;
                  follows = four.run;
                  syncing = four.all;
                },
              )

  least_in : (v : View D) (s : model.State) (a b : ℕ) → IsAt disks S v s → AreLeast disks.state v a b → IsLeastPairIn S F s a b
  least_in v s a b at least r room = subst (λ (T : Shape). IsLeastPair T T.run_extents r a b) at.same (least r (room_in v s r at room))

  pair_in : (v w : View D) (s : model.State) → IsAt disks S v s → IsPairSweptBy disks v w
      → (t : model.State) × IsAt disks S w t × IsPairSweptIn S F s t
  pair_in v w s at (a, b, mid, least, first, inl (fewer, is)) =
      let one = sweep_in v mid a s at first in (
        one.0,
        subst (λ (u : View D). IsAt disks S u one.0) (sym is) one.1,
        (a, b, one.0, least_in v s a b at least, one.2, inl (hold one.0 one.1, refl)),
      )
    where
      hold : (t : model.State) → IsAt disks S mid t → HoldFewer S F s t
      hold t here r q was now = omega (arith, chunks_counted v s r at was, chunks_counted mid t q here now, fewer)
  pair_in v w s at (a, b, mid, least, first, inr (more, second)) =
      let one = sweep_in v mid a s at first in
      let two = sweep_in mid w b one.0 one.1 second in (
        two.0,
        two.1,
        (a, b, one.0, least_in v s a b at least, one.2, inr (hold one.0 one.1, two.2)),
      )
    where
      hold : (t : model.State) → IsAt disks S mid t → HoldNoFewer S F s t
      hold t here r q was now = omega (arith, chunks_counted v s r at was, chunks_counted mid t q here now, more)

  -- so many pairs
  pub pairs_in : (n : ℕ) (v w : View D) (s : model.State) → IsAt disks S v s → PairsSweptBy disks n v w
      → (t : model.State) × IsAt disks S w t × PairsSweptIn S F n s t
  pairs_in zero v w s at is = (s, subst (λ (u : View D). IsAt disks S u s) (sym is) at, refl)
  pairs_in (suc n) v w s at (mid, pair, more) =
      let one = pair_in v mid s at pair in
      let rest = pairs_in n mid w one.0 one.1 more in (rest.0, rest.1, (one.0, one.2, rest.2))

-- generations only rise
module _ (S : Shape) (F : Formats) (shape : IsShape S) (format : IsFormat S F) (apart : S.apart ≡ true) where
  young_sweep : (s t : model.State) (e : ℕ) → IsSweptIn S F s e t → NoneWorn S t → NoneWorn S s
  young_sweep s t e swept young = young_step S F shape format apart s swept.begun (model.BeginSweep e) model.Sweeping swept.begins
      (young_history S F shape format apart swept.begun swept.moved swept.copies swept.goes
      (young_step S F shape format apart swept.moved swept.retired (model.Retire e) (model.Retired swept.version) swept.retires
      (young_history S F shape format apart swept.retired t swept.syncs swept.follows young)))

  young_pair : (s t : model.State) → IsPairSweptIn S F s t → NoneWorn S t → NoneWorn S s
  young_pair s t (a, b, mid, least, first, inl (fewer, is)) young =
      young_sweep s mid a first (subst (λ (x : model.State). NoneWorn S x) is young)
  young_pair s t (a, b, mid, least, first, inr (more, second)) young =
      young_sweep s mid a first (young_sweep mid t b second young)

  pub young_pairs : (n : ℕ) (s t : model.State) → PairsSweptIn S F n s t → NoneWorn S t → NoneWorn S s
  young_pairs zero s t is young = subst (λ (x : model.State). NoneWorn S x) is young
  young_pairs (suc n) s t (mid, pair, rest) young = young_pair s mid pair (young_pairs n mid t rest young)
