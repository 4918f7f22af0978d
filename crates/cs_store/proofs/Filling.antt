-- Why a call is refused 41 HistoryFull.
use Rattle.std.proofs.Common.{◌≡◌, ◌∙◌, ◌⊎◌, ◌<◌, ◌≤◌, List, [], ◌∷◌, drop, length, length-drop, sym, ap, subst, inl, inr, ⊎_elim, arith}
use Rattle.std.specs.Prelude.{IfErr, Result, Ok, Err}
use Rattle.cs_refusal.specs.declared.refusals.Refusal.{Refusal}
use Rattle.cs_refusal.specs.declared.refusals.Refusal.TheVariants as refusal
use Rattle.cs_disk.specs.declared.disk.PageDisk.{Ghosts as PageDisk}
use Rattle.law_machine.specs.Refusal as ground
use Rattle.law_machine.specs.Refusal.{Refusal as Ground}
use Rattle.law_machine.specs.State.{State}
use Rattle.law_refinement.specs.Refusals.{refusal_for}
use Rattle.cs_core.specs.Checkpoints.{IsNotReplaced}
use Rattle.cs_core.specs.declared.events.Event.{Event}
use Rattle.cs_core.specs.declared.events.Reply.{Reply}
use Rattle.cs_core.specs.declared.events.Reply.TheVariants.{Refused}
use Rattle.cs_core.specs.Views.{IsIn, View, kept}
use Rattle.cs_writeback.specs.Histories.{IsStopped, IsUnrecorded, Stays, Went}
use Rattle.cs_writeback.specs.Syncs.{Syncs}
use Rattle.cs_store.specs.Rooms.{Empties, HasNoRoom, IsMadeReady, IsSweeping, room_refusal}
use Rattle.cs_store.proofs.Running.{untouched_in}

-- no ground of a refusal in the machine is a full history
no_ground : (f : Ground) → refusal.HistoryFull ≡ refusal_for f → ⊥
no_ground ground.DeviceFault e = cc
no_ground ground.InFlight e = cc
no_ground ground.BadMagic e = cc
no_ground ground.BadDigest e = cc
no_ground ground.BadLength e = cc
no_ground ground.BadPadding e = cc
no_ground ground.BadVersion e = cc
no_ground ground.Misplaced e = cc
no_ground ground.Full e = cc
no_ground ground.TooLarge e = cc
no_ground ground.IndexFull e = cc
no_ground ground.NotSweepable e = cc
no_ground ground.StillLive e = cc
no_ground ground.WornOut e = cc
no_ground ground.Halted e = cc
no_ground ground.NoRound e = cc

module _ {D : Type 0} (disks : PageDisk D) where
  -- after a sync a checkpoint is refused so only where an extent is being swept
  not_replaced : (old synced : View D) (why : Refusal) → Syncs disks old synced → IsNotReplaced synced why → room_refusal why ≡ refusal.HistoryFull → IsSweeping synced
  not_replaced old synced refusal.Halted syncs is e = absurd (cc e)
  not_replaced old synced refusal.Unsettled syncs is e = λ none_swept. is.1 (record {
    none_waits = syncs.none_waiting;
    none_out = syncs.none_out;
    none_changed = syncs.none_changed;
    none_swept = none_swept;
  })
  not_replaced old synced refusal.WornOut syncs is e = absurd (cc e)
  not_replaced old synced why syncs is e = absurd is

  pub left_full : (old synced new : View D) (why told : Refusal) → Syncs disks old synced → IsNotReplaced synced why → new ≡ synced → told ≡ room_refusal why → told ≡ refusal.HistoryFull → IsSweeping new
  left_full old synced new why told syncs is same tells full = subst (λ (v : View D). IsSweeping v) (sym same) (not_replaced old synced why syncs is (sym tells ∙ full))

  -- where a store was made ready, as many events are kept as may be only where none may be
  ready_full : (old ready : View D) → IsMadeReady disks old ready → ready.limit ≤ length (kept ready) → ready.limit ≡ 0
  ready_full old ready made full = go made.rest
    where
      go : ((length (kept made.room) < made.room.limit) × (ready ≡ made.room)) ⊎ ((made.room.limit ≤ length (kept made.room)) × Empties disks made.room ready) → ready.limit ≡ 0
      go (inl (some, is)) = absurd (subst (λ (v : View D). (length (kept v) < v.limit) → ⊥) is (λ few. omega (arith, few, full)) some)
      go (inr (none, (synced, syncs, n, replaces))) =
          let same_base : ready.base ≡ length synced.history = ap (λ (v : View D). v.base) replaces.1 in
          let same_history : length ready.history ≡ length synced.history = ap (λ (v : View D). length v.history) replaces.1 in
          omega (arith, full, length-drop ready.base ready.history, same_base, same_history)

  -- the event isn't recorded, for a reason that stands
  unrecorded : (old ready new : View D) (event : Event) → IsMadeReady disks old ready → Stays disks ready new → IsUnrecorded new event refusal.HistoryFull → HasNoRoom new
  unrecorded old ready new event made stays (inl memory) = absurd (cc memory)
  unrecorded old ready new event made stays (inr (is, limited, full)) =
      let kept_same : length (kept new) ≡ length (kept ready) = ap length (ap (λ n. drop n new.history) stays.0.base ∙ ap (drop ready.base) stays.0.history) in
      let no_limit : ready.limit ≡ 0 = ready_full old ready made (omega (arith, full, kept_same, stays.0.limit)) in
      inl (stays.0.limit ∙ no_limit)

  -- over an honest disk no event is recorded so
  recorded : (ready new : View D) (event : Event) (s : State) → disks.honest ready.disk → IsIn disks.state ready s → Went disks ready ((event, Refused refusal.HistoryFull) ∷ []) new → ⊥
  recorded ready new event s there is_in (before, after, ahead, goes, behind) =
      let did = goes.step.step (ahead.1.0 there) s (untouched_in disks ready before s there ahead.0 is_in) in
      no_ground did.2.0 did.2.2

  pub event_full : (old ready new : View D) (event : Event) (r : Refusal) → IsMadeReady disks old ready → disks.honest ready.disk → (s : State) × IsIn disks.state ready s → IsStopped disks ready [] event r new → r ≡ refusal.HistoryFull → HasNoRoom new
  event_full old ready new event r made there s stopped is = go (subst (λ (x : Refusal). IsStopped disks ready [] event x new) is stopped)
    where
      go : IsStopped disks ready [] event refusal.HistoryFull new → HasNoRoom new
      go t = ⊎_elim
          (λ (e : t.added ≡ (event, Refused refusal.HistoryFull) ∷ []). absurd (recorded ready new event s.0 there s.1 (subst (λ (xs : List (Event × Reply)). Went disks ready xs new) e t.went)))
          (λ (e : (t.added ≡ []) × IsUnrecorded new event refusal.HistoryFull). unrecorded old ready new event made (subst (λ (xs : List (Event × Reply)). Went disks ready xs new) e.0 t.went) e.1)
          t.refused

  pub event_full_if : (old ready new : View D) (event : Event) (r : Result Reply Refusal) → IsMadeReady disks old ready → disks.honest ready.disk → (s : State) × IsIn disks.state ready s → IfErr r (λ (why : Refusal). IsStopped disks ready [] event why new)
      → IfErr r (λ (why : Refusal). why ≡ refusal.HistoryFull → HasNoRoom new)
  event_full_if old ready new event (Ok reply) made there s stopped = tt
  event_full_if old ready new event (Err r) made there s stopped = event_full old ready new event r made there s stopped
