-- Calls of a core, one after another: what a crash within them leaves, and how many commands were accepted.
use Rattle.std.proofs.Common.{◌≡◌, ◌∙◌, ◌⊎◌, ◌≤◌, ◌+◌, ℕ, List, [], ◌∷◌, length, length-append, sym, ap, subst, inl, inr, arith}
use Rattle.std.specs.Prelude.{IfErr, IfOk, OnOk, Result, Ok, Err}
use Rattle.cs_disk.specs.declared.disk.PageDisk.{Ghosts as PageDisk}
use Rattle.cs_disk.specs.Disk.{Image, Leaves, LeavesOnly, MayLeave, State as DiskState, page}
use Rattle.cs_extent.specs.State.{shape}
use Rattle.cs_frame.specs.Formats.{formats_of}
use Rattle.law_machine.specs.State.{Command, State}
use Rattle.law_refinement.specs.Crashes.{IsPrefix}
use Rattle.law_refinement.specs.Devices.{IsDiskOf}
use Rattle.cs_core.proofs.Composing.{calls_leave}
use Rattle.cs_core.proofs.Crashes.{commands_reached, only_before}
use Rattle.cs_core.proofs.Resting.{at_rest}
use Rattle.cs_core.specs.Calls.{AreCalls, IsCall}
use Rattle.cs_core.specs.Checkpoints.{Replaces}
use Rattle.cs_core.specs.declared.events.Event.{Event}
use Rattle.cs_core.specs.declared.events.Reply.{Reply}
use Rattle.cs_core.specs.Meanings.{commands_said}
use Rattle.cs_core.specs.States.{IsStateOf}
use Rattle.cs_core.specs.Stored.{Stored}
use Rattle.cs_core.specs.Views.{Applies, IsIn, IsReached, IsUntouched, View}
use Rattle.cs_writeback.specs.Runs.{Ran}
use Rattle.cs_store.specs.Maps.{Accepts}

-- what a crash may leave: the map after some of the commands of the new core, none of those left out that were
-- persistent in the old one
abbrev pub Left : {D : Type 0} → (old new : View D) → Image → Type 0
Left old new = IsPrefix (shape old.store.extents) (page old.opened) (commands_said new.history) old.store.frontier new.store.accepted

-- what a result is known to be
pub if_ok : {T E : Type 0} (r : Result T E) (x : T) (P : T → Type 0) → r ≡ Ok x → P x → IfOk r P
if_ok r x P is p = subst (λ r. IfOk r P) (sym is) p

pub if_err : {T E : Type 0} (r : Result T E) (e : E) (P : T → Type 0) → r ≡ Err e → IfOk r P
if_err r e P is = subst (λ r. IfOk r P) (sym is) tt

pub refused_ok : {T E : Type 0} (r : Result T E) (x : T) (P : E → Type 0) → r ≡ Ok x → IfErr r P
refused_ok r x P is = subst (λ r. IfErr r P) (sym is) tt

pub refused_err : {T E : Type 0} (r : Result T E) (e : E) (P : E → Type 0) → r ≡ Err e → P e → IfErr r P
refused_err r e P is p = subst (λ r. IfErr r P) (sym is) p

pub on_ok : {T E : Type 0} (r : Result T E) (x : T) (P : Type 0) → r ≡ Ok x → P → OnOk r P
on_ok r x P is p = subst (λ r. OnOk r P) (sym is) p

pub on_err : {T E : Type 0} (r : Result T E) (e : E) (P : Type 0) → r ≡ Err e → OnOk r P
on_err r e P is = subst (λ r. OnOk r P) (sym is) tt

module _ {D : Type 0} (disks : PageDisk D) where
  -- a crash at any moment of these calls
  pub ran_leaves : (old new : View D) (s : State) → disks.honest old.disk → IsIn disks.state old s → Leaves (disks.state old.disk) (Left old old)
      → ((image : Image) → disks.left_since old.disk (disks.moment old.disk) image → MayLeave (disks.state old.disk) image) → Ran disks old new
      → LeavesOnly disks.moment disks.left_since old.disk new.disk (Left old new)
  ran_leaves old new s there is here only_now (inl same) =
      subst (λ (v : View D). LeavesOnly disks.moment disks.left_since old.disk v.disk (Left old v)) (sym same)
      (only_before disks.state disks.moment disks.left_since old.disk (Left old old) here only_now)
  ran_leaves old new s there is here only_now (inr (between, calls)) = calls_leave disks between old new s there calls is

  -- what was persistent stays so
  calls_rise : (between : List (View D)) (old new : View D) → AreCalls disks old between new → old.store.frontier ≤ new.store.frontier
  calls_rise [] old new call = call.rises
  calls_rise (v ∷ vs) old new (call, calls) = omega (arith, call.rises, calls_rise vs v new calls)

  pub ran_rises : (old new : View D) → Ran disks old new → old.store.frontier ≤ new.store.frontier
  ran_rises old new (inl same) = let e : new.store.frontier ≡ old.store.frontier = ap (λ (v : View D). v.store.frontier) same in omega (arith, e)
  ran_rises old new (inr (between, calls)) = calls_rise between old new calls

  -- nothing has changed but rooms
  pub untouched_in : (old new : View D) (s : State) → disks.honest old.disk → IsUntouched disks old new → IsIn disks.state old s → IsIn disks.state new s
  untouched_in old new s there asked is = record {
    store = subst (λ (v : Stored). IsStateOf v s) (sym asked.store) is.store;
    disk = subst (λ (v : Stored). IsDiskOf (shape v.extents) (formats_of (shape v.extents)) s (disks.state new.disk)) (sym asked.store)
        (subst (λ (d : DiskState). IsDiskOf (shape old.store.extents) (formats_of (shape old.store.extents)) s d) (sym (asked.disk there)) is.disk);
    reached = subst (λ (v : Stored). IsReached (shape v.extents) (formats_of (shape v.extents)) new.opened new.history s) (sym asked.store)
        (subst (λ (i : Image). IsReached (shape old.store.extents) (formats_of (shape old.store.extents)) i new.history s) (sym asked.opened)
        (subst (λ (h : List (Event × Reply)). IsReached (shape old.store.extents) (formats_of (shape old.store.extents)) old.opened h s) (sym asked.history) is.reached));
  }

  replaced_in : (old : View D) (n : ℕ) (new : View D) (s : State) → Replaces old n new → IsIn disks.state old s → IsIn disks.state new s
  replaced_in old n new s replaces is = subst (λ (v : View D). IsIn disks.state v s) (sym replaces.1) (record { store = is.store; disk = is.disk; reached = is.reached })

  applied_in : (old : View D) (event : Event) (reply : Reply) (new : View D) (s : State) → disks.honest old.disk → Applies disks old event reply new → IsIn disks.state old s → (t : State) × IsIn disks.state new t
  applied_in old event reply new s there (inl full) is = (s, subst (λ (v : View D). IsIn disks.state v s) (sym full.same) is)
  applied_in old event reply new s there (inr step) is = let did = step.step there s is in (did.1, did.4)

  call_in : (old new : View D) (s : State) → disks.honest old.disk → IsCall disks old new → IsIn disks.state old s → (t : State) × IsIn disks.state new t
  call_in old new s there call is = go call.did
    where
      go : ((event : Event) × (reply : Reply) × Applies disks old event reply new) ⊎ IsUntouched disks old new ⊎ ((n : ℕ) × Replaces old n new) → (t : State) × IsIn disks.state new t
      go (inl (event, reply, applies)) = applied_in old event reply new s there applies is
      go (inr (inl asked)) = (s, untouched_in old new s there asked is)
      go (inr (inr (n, replaces))) = (s, replaced_in old n new s replaces is)

  calls_in : (between : List (View D)) (old new : View D) (s : State) → disks.honest old.disk → AreCalls disks old between new → IsIn disks.state old s → (t : State) × IsIn disks.state new t
  calls_in [] old new s there call is = call_in old new s there call is
  calls_in (v ∷ vs) old new s there (call, calls) is = let mid = call_in old v s there call is in calls_in vs v new mid.0 (call.stays_honest there) calls mid.1

  -- after the calls the core is in a state of the machine
  pub ran_in : (old new : View D) (s : State) → disks.honest old.disk → Ran disks old new → IsIn disks.state old s → (t : State) × IsIn disks.state new t
  ran_in old new s there (inl same) is = (s, subst (λ (v : View D). IsIn disks.state v s) (sym same) is)
  ran_in old new s there (inr (between, calls)) is = calls_in between old new s there calls is

  -- in a state of the machine all commands that were accepted are those of the history
  pub count_of : (v : View D) (s : State) → IsIn disks.state v s → v.store.accepted ≡ length (commands_said v.history)
  count_of v s is = sym is.store.accepted ∙ ap length (commands_reached (shape v.store.extents) (formats_of (shape v.store.extents)) v.opened v.history s is.reached)

  -- so many were accepted
  pub counted : (cs : List Command) (old new : View D) (s : State) → disks.honest old.disk → IsIn disks.state old s → Ran disks old new → Accepts disks cs old new
      → new.store.accepted ≡ length cs + old.store.accepted
  counted cs old new s there is ran accepts =
      let now = ran_in old new s there ran is in
      count_of new now.0 now.1 ∙ ap length accepts.commands_now ∙ length-append cs (commands_said old.history) ∙ ap (λ n. length cs + n) (sym (count_of old s is))

  pub counted_none : (old new : View D) (s : State) → disks.honest old.disk → IsIn disks.state old s → Ran disks old new → Accepts disks [] old new → new.store.accepted ≡ old.store.accepted
  counted_none old new s there is ran accepts = let more : new.store.accepted ≡ 0 + old.store.accepted = counted [] old new s there is ran accepts in omega (arith, more)

  -- at rest all of them are persistent
  pub rests : (old new : View D) (s : State) → disks.honest old.disk → IsIn disks.state old s → Ran disks old new
      → new.store.graph.staging.pending.waiting ≡ [] → new.store.index.table ≡ [] → new.store.frontier ≡ new.store.accepted
  rests old new s there is ran none_waiting none_changed = let now = ran_in old new s there ran is in at_rest new.store now.0 now.1.store none_waiting none_changed
