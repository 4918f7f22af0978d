-- Room that is made for an event, and the event that is done then.
use Rattle.std.proofs.Common.{◌≡◌, ◌⊎◌, ℕ, ◌<◌, ◌≤◌, [], length, refl, sym, subst, inl, inr}
use Rattle.std.specs.Prelude.{IfErr, IfOk, MatchResult, OnOk, Result, Ok, Err}
use Rattle.cs_refusal.specs.declared.refusals.Refusal.{Refusal}
use Rattle.cs_refusal.specs.declared.refusals.Refusal.TheVariants.{OutOfMemory}
use Rattle.cs_disk.specs.declared.disk.PageDisk.{Ghosts as PageDisk}
use Rattle.law_machine.specs.State.{State}
use Rattle.cs_core.specs.declared.events.Event.{Event}
use Rattle.cs_core.specs.declared.events.Reply.{Reply}
use Rattle.cs_core.specs.Meanings.{command_said}
use Rattle.cs_core.specs.Replies.{MayRefuse}
use Rattle.cs_core.specs.Views.{IsIn, View, kept}
use Rattle.cs_writeback.proofs.Histories.{went_one}
use Rattle.cs_writeback.specs.Histories.{Goes, IsStopped, MakesRoom}
use Rattle.cs_writeback.specs.declared.whole_sweeps.Swept.{Swept}
use Rattle.cs_writeback.specs.Sweeps.{IsSweepRefused, MayRefuseSweep, Sweeps}
use Rattle.cs_writeback.specs.Syncs.{StopsSync, Syncs}
use Rattle.cs_store.specs.Errors.{IsDeleteRefusal}
use Rattle.cs_store.specs.Events.{Declines, Does, DoesFrom}
use Rattle.cs_store.specs.Maps.{Accepts}
use Rattle.cs_store.specs.Rooms.{Empties, IsMadeReady, IsNoRoom, StaysFull}
use Rattle.cs_store.specs.Sweeps.{DeclinesSweep, SweepsReady}
use Rattle.cs_store.proofs.Accepting.{declines_quiet, does_accepts, no_room_quiet, ready_quiet, swept_quiet, sync_quiet, sync_stopped_quiet, unswept_quiet}

module _ {D : Type 0} (disks : PageDisk D) where
  -- there was room
  pub ready_now : (old ready : View D) → MakesRoom old ready → length (kept ready) < ready.limit → IsMadeReady disks old ready
  ready_now old ready made some = record { room = ready; made = made; rest = inl (some, refl) }

  -- there was none, and all was emptied
  pub ready_if : {T : Type 0} (old full new : View D) (r : Result T Refusal) → MakesRoom old full → full.limit ≤ length (kept full) → OnOk r (Empties disks full new) → OnOk r (IsMadeReady disks old new)
  ready_if old full new (Ok t) made none empties = record { room = full; made = made; rest = inr (none, empties) }
  ready_if old full new (Err r) made none empties = tt

  pub no_room_if : {T : Type 0} (old full new : View D) (r : Result T Refusal) → MakesRoom old full → full.limit ≤ length (kept full) → IfErr r (λ refusal. StaysFull disks full refusal new) → IfErr r (λ refusal. IsNoRoom disks old refusal new)
  no_room_if old full new (Ok t) made none why = tt
  no_room_if old full new (Err r) made none why = record { full = full; made = made; no_more = none; why = why }

  -- no command is accepted
  pub room_accepts : {T : Type 0} (old new : View D) (r : Result T Refusal) → OnOk r (IsMadeReady disks old new) → IfErr r (λ refusal. IsNoRoom disks old refusal new) → Accepts disks [] old new
  room_accepts old new (Ok t) ready no_room = ready_quiet disks old new ready
  room_accepts old new (Err r) ready no_room = no_room_quiet disks old r new no_room

  -- ---- the event

  pub does_if : (old ready new : View D) (event : Event) (r : Result Reply Refusal) → IsMadeReady disks old ready → IfOk r (λ reply. Goes disks ready event reply new) → IfOk r (λ reply. Does disks old event reply new)
  does_if old ready new event (Ok reply) made goes = (ready, made, went_one disks ready new event reply goes)
  does_if old ready new event (Err r) made goes = tt

  pub does_from : (old ready new : View D) (event : Event) (r : Result Reply Refusal) → Accepts disks [] old ready → (s : State) × IsIn disks.state ready s → IfOk r (λ reply. Goes disks ready event reply new) → IfOk r (λ reply. DoesFrom disks old event reply new)
  does_from old ready new event (Ok reply) same machine goes = record { ready = ready; machine = machine.0; same = same; is_in = machine.1; went = went_one disks ready new event reply goes }
  does_from old ready new event (Err r) same machine goes = tt

  pub declines_if : (old ready new : View D) (event : Event) (r : Result Reply Refusal) → IsMadeReady disks old ready → IfErr r (λ refusal. IsStopped disks ready [] event refusal new) → IfErr r (λ refusal. Declines disks old event refusal new)
  declines_if old ready new event (Ok reply) made stopped = tt
  declines_if old ready new event (Err r) made stopped = inr (ready, made, stopped)

  pub event_accepts : (old ready new : View D) (event : Event) (r : Result Reply Refusal) → IsMadeReady disks old ready → IfOk r (λ reply. Goes disks ready event reply new) → IfErr r (λ refusal. IsStopped disks ready [] event refusal new)
      → MatchResult r (λ reply. Accepts disks (command_said event reply) old new) (λ _. Accepts disks [] old new)
  event_accepts old ready new event (Ok reply) made goes stopped = does_accepts disks old event reply new (ready, made, went_one disks ready new event reply goes)
  event_accepts old ready new event (Err r) made goes stopped = declines_quiet disks old event r new (inr (ready, made, stopped))

  -- ---- sweeps

  pub sweeps_if : (extent : ℕ) (old ready new : View D) (r : Result Swept Refusal) → IsMadeReady disks old ready → IfOk r (λ swept. Sweeps disks extent ready new swept.moved swept.root) → IfOk r (λ swept. SweepsReady disks extent old new swept.moved swept.root)
  sweeps_if extent old ready new (Ok swept) made sweeps = (ready, made, sweeps)
  sweeps_if extent old ready new (Err r) made sweeps = tt

  pub sweep_declines_if : (extent : ℕ) (old ready new : View D) (r : Result Swept Refusal) → IsMadeReady disks old ready → IfErr r (λ refusal. IsSweepRefused disks extent ready new refusal) → IfErr r (λ refusal. DeclinesSweep disks extent old new refusal)
  sweep_declines_if extent old ready new (Ok swept) made refused = tt
  sweep_declines_if extent old ready new (Err r) made refused = inr (ready, made, refused)

  pub sweep_accepts : (extent : ℕ) (old ready new : View D) (r : Result Swept Refusal) → IsMadeReady disks old ready → IfOk r (λ swept. Sweeps disks extent ready new swept.moved swept.root) → IfErr r (λ refusal. IsSweepRefused disks extent ready new refusal)
      → Accepts disks [] old new
  sweep_accepts extent old ready new (Ok swept) made sweeps refused = swept_quiet disks extent old new swept.moved swept.root (ready, made, sweeps)
  sweep_accepts extent old ready new (Err r) made sweeps refused = unswept_quiet disks extent old new r (inr (ready, made, refused))

  -- ---- syncs

  pub sync_accepts : (old new : View D) (r : Result ℕ Refusal) → IfOk r (λ frontier. Syncs disks old new × (frontier ≡ new.store.frontier)) → IfErr r (λ refusal. StopsSync disks old refusal new) → Accepts disks [] old new
  sync_accepts old new (Ok frontier) syncs stops = sync_quiet disks old new syncs.0
  sync_accepts old new (Err r) syncs stops = sync_stopped_quiet disks old r new stops

-- a sweep is refused for its own reasons
pub sweep_refusals : (r : Result Swept Refusal) → IfErr r MayRefuseSweep → IfErr r (λ refusal. IsDeleteRefusal refusal ⊎ MayRefuseSweep refusal)
sweep_refusals (Ok swept) may = tt
sweep_refusals (Err r) may = inr may

-- an event is refused for its own reasons, or for want of memory
pub event_refusals : (event : Event) (r : Result Reply Refusal) → IfErr r (λ refusal. (refusal ≡ OutOfMemory) ⊎ MayRefuse event refusal) → IfErr r (λ refusal. IsDeleteRefusal refusal ⊎ MayRefuse event refusal)
event_refusals event (Ok reply) may = tt
event_refusals event (Err r) (inl memory) = inl (subst IsDeleteRefusal (sym memory) tt)
event_refusals event (Err r) (inr may) = inr may
