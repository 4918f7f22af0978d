-- Reclaims one after another, in room.
use Rattle.std.proofs.Common.{◌≡◌, inl, inr, ℕ, zero, suc, ◌<◌, ◌||◌, Bool, true, false, List, [], ◌∷◌, ◌++◌, Option, Some, None, length, le_refl, le_trans, true≢false, refl, sym, ap, ◌∙◌, subst, arith}
use Rattle.std.proofs.lemmas.Bool.{cases_eq}
use Rattle.cs_refusal.specs.declared.refusals.Refusal.TheVariants.{HistoryFull}
use Rattle.cs_disk.specs.declared.disk.PageDisk.{Ghosts as PageDisk}
use Rattle.cs_extent.specs.State.{shape}
use Rattle.cs_frame.specs.declared.identifiers.ShardId.{ShardId}
use Rattle.cs_frame.specs.Formats.{formats_of}
use Rattle.law_machine.specs.Apart.{any_below, any_swept}
use Rattle.law_machine.specs.Device.{IsShape, Shape}
use Rattle.law_machine.specs.Extents.{Extents}
use Rattle.law_machine.specs.Formats.{Formats}
use Rattle.law_machine.specs.Frames.{IsFormat}
use Rattle.law_machine.specs.State as model
use Rattle.law_machine.specs.Step.{History, Step}
use Rattle.law_room.proofs.MachineAside.{syncs_fresh}
use Rattle.law_room.proofs.MachineRetire.{retired_fresh}
use Rattle.law_room.proofs.MachineSteps.{history_room, step_room, young_history, young_step}
use Rattle.law_room.proofs.MachineSwept.{sweep_room, syncs, young_swept}
use Rattle.law_room.proofs.Sharing.{sweep_leaves}
use Rattle.law_room.specs.Brim.{IsNext, NextSwept}
use Rattle.law_room.specs.OfMachine.{HasRoomNow, IsRoomOf, IsSweepOf, NoneWorn}
use Rattle.law_room.specs.Rooms.{Room, Sweep}
use Rattle.law_room.specs.Sweeps.{IsSwept, Syncs as SyncsInRoom}
use Rattle.law_room.specs.SweepsOfMachine.{IsCopying, IsSweptIn, IsSyncing}
use Rattle.cs_core.specs.declared.events.Event.{Event}
use Rattle.cs_core.specs.declared.events.Event.TheVariants.{BeginSweep, MoveOne, Retire}
use Rattle.cs_core.specs.declared.events.Reply.{Reply}
use Rattle.cs_core.specs.declared.events.Reply.TheVariants.{NoneLive, Refused, Retired, Sweeping}
use Rattle.cs_core.specs.Stored.{Stored}
use Rattle.cs_core.specs.Views.{View}
use Rattle.cs_writeback.proofs.Histories.{went_parts}
use Rattle.cs_writeback.specs.Histories.{Stays, Went}
use Rattle.cs_writeback.specs.Sweeps.{Sweeps, moves}
use Rattle.cs_store.proofs.Running.{untouched_in}
use Rattle.cs_store.specs.declared.reclaims.Reclaimed.{Reclaimed}
use Rattle.law_room_in_store.proofs.CoreSteps.{IsAt, IsStepTo, answered}
use Rattle.law_room_in_store.proofs.KeepingRoom.{ran_roomy, read_untouched, state_of, young_before}
use Rattle.law_room_in_store.proofs.ReclaimChoices.{chose_by, none_within}
use Rattle.law_room_in_store.proofs.ReclaimsChoose.{chosen}
use Rattle.law_room_in_store.proofs.Reaching.{AllEvents, AllOf, Anything, Reaches, both_of, joined, reaches_ran, reaches_ready, reaches_same, reaches_syncs, reaches_then, reaches_untouched, reaches_went}
use Rattle.law_room_in_store.proofs.StorePuts.{of_sync}
use Rattle.law_room_in_store.specs.Cores.{NoneWornIn}
use Rattle.law_room_in_store.specs.Reclaims.{AreSynced, IsIdle, IsReclaim, NoneFailed, ReclaimsBy}
use Rattle.law_room_in_store.specs.Roomy.{IsRoomyCore}

all_moves : (e : ℕ) (moved : List (ShardId × ℕ)) → AllEvents (IsCopying e) (moves e moved)
all_moves e [] = tt
all_moves e (m ∷ moved) = (refl, all_moves e moved)

-- where none below n passes, each fails, and the other way round
below_fails : (test : ℕ → Bool) (n : ℕ) → any_below test n ≡ false → (e : ℕ) → e < n → test e ≡ false
below_fails test zero none e lt = absurd (omega arith)
below_fails test (suc n) none e lt = go (test n) refl none (λ more inside. below_fails test n more e inside)
  where
    go : (b : Bool) → test n ≡ b → (b || any_below test n) ≡ false → (any_below test n ≡ false → e < n → test e ≡ false)
        → test e ≡ false
    go true is wrong rest = absurd (true≢false wrong)
    go false is more rest = elim (cases_eq e n) [ inl here ↦ ap test here ∙ is | inr other ↦ rest more (omega arith) ]

pub none_below : (test : ℕ → Bool) (n : ℕ) → ((e : ℕ) → e < n → test e ≡ false) → any_below test n ≡ false
none_below test zero each = refl
none_below test (suc n) each = ap (λ (b : Bool). b || any_below test n) (each n (omega arith))
    ∙ none_below test n (λ e lt. each e (omega arith))

module _ {D : Type 0} (disks : PageDisk D) (S : Shape) where
  abbrev F : Formats
  F = formats_of S

  -- ---- one sweep

  pub still_at : (v w : View D) (s : model.State) → IsAt disks S v s → Stays disks v w → IsAt disks S w s
  still_at v w s at stays = record {
    same = ap (λ (u : Stored). shape u.extents) stays.0.store ∙ at.same;
    honest = stays.1.0 at.honest;
    is_in = untouched_in disks v w s at.honest stays.0 at.is_in;
  }

  pub one_in : (v w : View D) (event : Event) (reply : Reply) (s : model.State) → IsAt disks S v s → (reply ≡ Refused HistoryFull → ⊥)
      → Went disks v ((event, reply) ∷ []) w → IsStepTo disks S s event reply w
  one_in v w event reply s at other (before, after, stays, goes, more) =
      let one = answered disks S before after event reply s (still_at v before s at stays) goes.stays_honest.0 other (inr goes.step) in
      record {
        told = one.told;
        then_in = one.then_in;
        says = one.says;
        step = one.step;
        here = still_at after w one.then_in one.here more;
      }

  pub reached_in : (P : model.Event → Type 0) (v w : View D) (s : model.State) → IsAt disks S v s → Reaches disks P v w
      → (t : model.State) × IsAt disks S w t × (events : List (model.Event × model.Reply)) × History S F s events t × AllOf P events
  reached_in P v w s at reaches = let l = reaches.leads at.honest s at.is_in in (
    l.0,
    record { same = reaches.same ∙ at.same; honest = reaches.honest at.honest; is_in = l.1 },
    l.2,
    subst (λ (T : Shape). History T (formats_of T) s l.2 l.0) at.same l.3,
    l.4,
  )

  -- a whole sweep is one of the machine
  swept_in : (v w : View D) (e count root : ℕ) (s : model.State) → IsAt disks S v s → Sweeps disks e v w count root
      → (t : model.State) × IsAt disks S w t × IsSweptIn S F s e t
  swept_in v w e count root s at sweeps =
      let start = went_parts disks ((BeginSweep e, Sweeping) ∷ [])
      (moves e sweeps.moved ++ (MoveOne e, NoneLive) ∷ (Retire e, Retired root) ∷ []) v w sweeps.went in
      let one = one_in v start.0 (BeginSweep e) Sweeping s at (λ wrong. let no : Sweeping ≡ Refused HistoryFull = wrong in cc) start.1 in
      let moved = went_parts disks (moves e sweeps.moved) ((MoveOne e, NoneLive) ∷ (Retire e, Retired root) ∷ []) start.0 w start.2 in
      let last = went_parts disks ((MoveOne e, NoneLive) ∷ []) ((Retire e, Retired root) ∷ []) moved.0 w moved.2 in
      let two = reached_in (IsCopying e) start.0 last.0 one.then_in one.here
      (reaches_then disks (IsCopying e) start.0 moved.0 last.0
      (reaches_went disks (IsCopying e) (moves e sweeps.moved) start.0 moved.0 (all_moves e sweeps.moved) moved.1)
      (reaches_went disks (IsCopying e) ((MoveOne e, NoneLive) ∷ []) moved.0 last.0 (refl, tt) last.1)) in
      let three = one_in last.0 w (Retire e) (Retired root) two.0 two.1
      (λ wrong. let no : Retired root ≡ Refused HistoryFull = wrong in cc) last.2 in (
        three.then_in,
        three.here,
        record {
          begun = one.then_in;
          moved = two.0;
          retired = three.then_in;
          version = root;
          copies = two.2;
          syncs = [];
          begins = subst (λ (m : model.Reply). Step S F s (model.BeginSweep e) m one.then_in) one.says one.step;
          goes = two.3;
          copying = two.4;
          retires = subst (λ (m : model.Reply). Step S F two.0 (model.Retire e) m three.then_in) three.says three.step;
          follows = refl;
          syncing = λ x none. absurd none;
        },
      )

  -- syncs behind it count as its own
  longer : (s t u : model.State) (e : ℕ) (events : List (model.Event × model.Reply)) → IsSweptIn S F s e t → History S F t events u
      → AllOf IsSyncing events → IsSweptIn S F s e u
  longer s t u e events swept run all = record {
    begun = swept.begun;
    moved = swept.moved;
    retired = swept.retired;
    version = swept.version;
    copies = swept.copies;
    syncs = swept.syncs ++ events;
    begins = swept.begins;
    goes = swept.goes;
    copying = swept.copying;
    retires = swept.retires;
    follows = joined S F swept.retired t u swept.syncs events swept.follows run;
    syncing = both_of IsSyncing swept.syncs events swept.syncing all;
  }

-- ---- one reclaim

synced_to : {D : Type 0} (disks : PageDisk D) (mid next : View D) → AreSynced disks mid next → Reaches disks IsSyncing mid next
synced_to disks mid next (inl same) = reaches_same disks IsSyncing mid next same
synced_to disks mid next (inr (synced, ran)) = reaches_syncs disks IsSyncing of_sync mid next synced

synced_roomy : {D : Type 0} (disks : PageDisk D) (mid next : View D) → IsRoomyCore disks mid → AreSynced disks mid next
    → IsRoomyCore disks next
synced_roomy disks mid next roomy (inl same) = subst (λ (u : View _). IsRoomyCore disks u) (sym same) roomy
synced_roomy disks mid next roomy (inr (synced, ran)) = ran_roomy disks mid next roomy ran

synced_reaches : {D : Type 0} (disks : PageDisk D) (mid next : View D) → AreSynced disks mid next → Reaches disks Anything mid next
synced_reaches disks mid next (inl same) = reaches_same disks Anything mid next same
synced_reaches disks mid next (inr (synced, ran)) = reaches_ran disks mid next ran

pub reclaims_reach : {D : Type 0} (disks : PageDisk D) (k : ℕ) (v w : View D) → ReclaimsBy disks k v w → Reaches disks Anything v w
reclaims_reach disks zero v w is = reaches_same disks Anything v w is
reclaims_reach disks (suc k) v w (swept, mid, next, call, synced, more) = reaches_then disks Anything v mid w
    (reaches_ran disks v mid call.ran)
    (reaches_then disks Anything mid next w (synced_reaches disks mid next synced) (reclaims_reach disks k next w more))

pub reclaims_roomy : {D : Type 0} (disks : PageDisk D) (k : ℕ) (v w : View D) → IsRoomyCore disks v → ReclaimsBy disks k v w → IsRoomyCore disks w
reclaims_roomy disks zero v w roomy is = subst (λ (u : View _). IsRoomyCore disks u) (sym is) roomy
reclaims_roomy disks (suc k) v w roomy (swept, mid, next, call, synced, more) =
    reclaims_roomy disks k next w (synced_roomy disks mid next (ran_roomy disks v mid roomy call.ran) synced) more

module _ {D : Type 0} (disks : PageDisk D) (sized : (d : D) → disks.honest d → length (disks.state d).durable ≡ disks.page_count d)
    (S : Shape) (shape_is : IsShape S) (format : IsFormat S (formats_of S)) (apart : S.apart ≡ true) where
  pub young_at : (v : View D) (s : model.State) → IsAt disks S v s → NoneWornIn v → NoneWorn S s
  young_at v s at young = subst (λ (T : Shape). NoneWorn T s) at.same (λ e lt. subst
      (λ (x : Extents). x.generation e < (shape v.store.extents).greatest_generation) (sym at.is_in.store.parts.world.extents)
      (young e lt))

  -- what it did in room
  record IsLinked (next : View D) (r : Room) : Type 0 where
    pub then_in : model.State
    pub here : IsAt disks S next then_in
    pub after : Room
    pub has : HasRoomNow S (formats_of S) then_in after
    pub extent : ℕ
    pub rested : Room
    pub count : ℕ
    pub choice : IsNext S S.run_extents r extent
    pub synced : SyncsInRoom S S.run_extents count r rested
    pub swept : IsSwept S S.run_extents rested extent after
    pub idle : IsIdle next

  -- after a whole sweep, and syncs behind it, no sweep goes on, and none was given up
  idle_after : (next : View D) (s t : model.State) (r q : Room) (e : ℕ) → IsAt disks S next t → NoneWorn S t
      → HasRoomNow S (formats_of S) s r → HasRoomNow S (formats_of S) t q → IsSweptIn S (formats_of S) s e t
      → IsSwept S S.run_extents r e q → IsIdle next
  idle_after next s t r q e at young has then_has swept in_room =
      let none : q.sweep ≡ None = (sweep_leaves S S.run_extents r q e (shape_is.apart apart).2 has.keeps in_room).1 in
      let unmarked : any_swept S t ≡ false = subst (λ (o : Option Sweep). IsSweepOf S t o) none then_has.room.sweep in
      let young_retired = young_history S (formats_of S) shape_is format apart swept.retired t swept.syncs swept.follows young in
      let young_moved = young_step S (formats_of S) shape_is format apart swept.moved swept.retired (model.Retire e)
      (model.Retired swept.version) swept.retires young_retired in
      let young_begun = young_history S (formats_of S) shape_is format apart swept.begun swept.moved swept.copies swept.goes young_moved in
      let begun = step_room S (formats_of S) shape_is format apart s swept.begun r has young_begun (model.BeginSweep e) model.Sweeping
      swept.begins in
      let moved = history_room S (formats_of S) shape_is format apart swept.begun swept.moved begun.0 swept.copies begun.2 swept.goes
      young_moved in
      let retired : swept.retired.world.extents.fresh ≡ None = retired_fresh S (formats_of S) shape_is format apart swept.moved
      swept.retired moved.0 e swept.version moved.1 swept.retires in
      let fresh : t.world.extents.fresh ≡ None = syncs_fresh S (formats_of S) shape_is format apart swept.retired t swept.syncs
      swept.follows swept.syncing retired in record {
        none_swept = λ d lt. sym (ap (λ (x : Extents). x.swept d) at.is_in.store.parts.world.extents)
            ∙ below_fails t.world.extents.swept S.extents unmarked d (subst (λ (T : Shape). d < T.extents) at.same lt);
        none_opened = sym (ap (λ (x : Extents). x.fresh) at.is_in.store.parts.world.extents) ∙ fresh;
      }

  link : (v mid next : View D) (swept : Reclaimed) → IsRoomyCore disks v → NoneWornIn next → IsIdle v
      → IsReclaim disks v (Some swept) mid → NoneFailed disks v mid → AreSynced disks mid next → (s : model.State) → IsAt disks S v s → (r : Room)
      → HasRoomNow S (formats_of S) s r → IsLinked next r
  link v mid next swept roomy young idle call none synced s at r has =
      let chose = chose_by disks sized v roomy mid (Some swept) call s at.is_in in
      let ready = chose.reclaims in
      let one = reached_in disks S IsSyncing v ready.0 s at (reaches_then disks IsSyncing v chose.read ready.0
      (reaches_untouched disks IsSyncing v chose.read chose.reads.1.honesty.0
      (read_untouched disks v chose.read chose.reads.0 chose.reads.1))
      (reaches_ready disks IsSyncing of_sync chose.read ready.0 ready.1)) in
      let two = swept_in disks S ready.0 mid swept.extent swept.moved swept.root one.0 one.1 ready.2 in
      let three = reached_in disks S IsSyncing mid next two.0 two.1 (synced_to disks mid next synced) in
      let whole = longer disks S one.0 two.0 three.0 swept.extent three.2 two.2 three.3 three.4 in
      let then_young = young_at next three.0 three.1 young in
      let before = young_swept S (formats_of S) shape_is format apart one.0 three.0 swept.extent whole then_young in
      let rests = syncs S (formats_of S) shape_is format apart s one.0 r one.2 has one.3 before one.4 in
      let sweeps = sweep_room S (formats_of S) shape_is format apart one.0 three.0 rests.1 swept.extent rests.3 whole then_young in record {
        then_in = three.0;
        here = three.1;
        after = sweeps.0;
        has = sweeps.2;
        extent = swept.extent;
        rested = rests.1;
        count = rests.0;
        choice = subst (λ (T : Shape). IsNext T T.run_extents r swept.extent) at.same
            (chosen disks sized v mid (Some swept) call chose none roomy idle s at.is_in r
            (subst (λ (T : Shape). HasRoomNow T (formats_of T) s r) (sym at.same) has) r
            (subst (λ (T : Shape). IsRoomOf T (formats_of T) s r) (sym at.same) has.room) swept.extent swept.dead refl);
        synced = rests.2;
        swept = sweeps.1;
        idle = idle_after next one.0 three.0 rests.1 sweeps.0 swept.extent three.1 then_young rests.3 sweeps.2 whole sweeps.1;
      }

  -- ---- so many

  pub record AreLinked (k : ℕ) (r : Room) (w : View D) : Type 0 where
    pub then_in : model.State
    pub here : IsAt disks S w then_in
    pub after : Room
    pub has : HasRoomNow S (formats_of S) then_in after
    pub swept : NextSwept S S.run_extents k r after
    pub idle : IsIdle w
    pub roomy : IsRoomyCore disks w

  pub links : (k : ℕ) (v w : View D) → IsRoomyCore disks v → NoneWornIn w → IsIdle v → ReclaimsBy disks k v w → NoneFailed disks v w
      → (s : model.State) → IsAt disks S v s → (r : Room) → HasRoomNow S (formats_of S) s r → AreLinked k r w
  links zero v w roomy young idle is none s at r has = subst (λ (u : View D). AreLinked zero r u) (sym is)
      (record { then_in = s; here = at; after = r; has = has; swept = refl; idle = idle; roomy = roomy })
  links (suc k) v w roomy young idle (swept, mid, next, call, synced, more) none s at r has =
      let swept_later = (reaches_ran disks v mid call.ran).later in
      let synced_later = (synced_reaches disks mid next synced).later in
      let more_later = (reclaims_reach disks k next w more).later in
      let none_here = none_within disks v v mid w (le_refl (disks.failure_count v.disk)) (le_trans synced_later more_later) none in
      let none_then = none_within disks v next w w (le_trans swept_later synced_later) (le_refl (disks.failure_count w.disk)) none in
      let then_roomy = synced_roomy disks mid next (ran_roomy disks v mid roomy call.ran) synced in
      let next_young = young_before disks next w (state_of disks next then_roomy) (reclaims_reach disks k next w more) young in
      let one = link v mid next swept roomy next_young idle call none_here synced s at r has in
      let rest = links k next w then_roomy young one.idle more none_then one.then_in one.here one.after one.has in record {
        then_in = rest.then_in;
        here = rest.here;
        after = rest.after;
        has = rest.has;
        swept = (one.extent, one.rested, one.after, one.count, one.choice, one.synced, one.swept, rest.swept);
        idle = rest.idle;
        roomy = rest.roomy;
      }
