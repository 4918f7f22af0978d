-- What a turn of a reclaimer leaves of it.
use Rattle.std.proofs.Common.{◌≡◌, ◌⊎◌, ◌≤◌, ◌&&◌, ℕ, Bool, Err, Ok, Result, Some, arith, ap, false, inl, inr, length, nat_lt, subst, sym, true}
use Rattle.std.specs.Prelude.{if◌then◌else◌}
use Rattle.cs_refusal.specs.declared.refusals.Refusal.{Refusal}
use Rattle.cs_disk.specs.declared.disk.PageDisk.{Ghosts as PageDisk}
use Rattle.cs_core.specs.declared.events.Event.{Event}
use Rattle.cs_core.specs.declared.events.Event.TheVariants as asked
use Rattle.cs_core.specs.declared.events.Reply.{Reply}
use Rattle.cs_core.specs.declared.events.Reply.TheVariants.{NoneLive}
use Rattle.cs_core.specs.Views.{View}
use Rattle.cs_extent.specs.State.{shape}
use Rattle.cs_node.specs.Locks.{WhileLocked}
use Rattle.cs_node.specs.Starts.{Start}
use Rattle.cs_inspect.specs.Past.{is_of_chunk}
use Rattle.cs_node.specs.Sweeps.{BeginsNone, IsSweepTurn, Reclaiming, after_event, after_refusal, given_up, moved, most_passed_over, with_passed, with_refused}
use Rattle.cs_node.specs.Told.{is_unrecorded}
use Rattle.cs_node.specs.declared.gates.Step.{Step}
use Rattle.cs_node.specs.declared.reclaimers.Next.TheVariants.{Begin}

-- the reclaimer after a refusal, by what is known of the format and of it
pub refused_so : (b d : Bool) (was w is : Reclaiming) (event : Event) (r : Refusal) → is ≡ after_refusal b w event r → b ≡ d → w ≡ was → is ≡ after_refusal d was event r
refused_so b d was w is event r after of same =
    subst (λ (a : Bool). is ≡ after_refusal a was event r) of (subst (λ (v : Reclaiming). is ≡ after_refusal b v event r) same after)

-- ---- no more sweeps are left

-- so of either
either_left : (b : Bool) (u v : Reclaiming) (most : ℕ) → u.left ≤ most → v.left ≤ most → (if b then u else v).left ≤ most
either_left true u v most one other = one
either_left false u v most one other = other

moved_left : (w : Reclaiming) (e : ℕ) (reply : Reply) → (moved w e reply).left ≤ w.left
moved_left w e NoneLive = omega arith
moved_left w e _ = omega arith

event_left : (w : Reclaiming) (event : Event) (reply : Reply) → (after_event w event reply).left ≤ w.left
event_left w (asked.BeginSweep e) reply = omega arith
event_left w (asked.MoveOne e) reply = moved_left w e reply
event_left w (asked.Retire e) reply = omega arith
event_left w (asked.Abandon e) reply = omega arith
event_left w _ reply = omega arith

passed_left : (w : Reclaiming) (e : ℕ) → (with_passed w e).left ≤ w.left
passed_left w e = either_left (nat_lt (length w.passed) most_passed_over) _ _ w.left (omega arith) (omega arith)

noted_left : (apart : Bool) (w : Reclaiming) (event : Event) (r : Refusal) → (with_refused apart w event r).left ≤ w.left
noted_left apart w (asked.MoveOne e) r = either_left (apart && is_of_chunk r) _ _ w.left (passed_left w e) (omega arith)
noted_left apart w _ r = omega arith

given_left : (w : Reclaiming) (event : Event) (r : Refusal) → (given_up w event r).left ≤ w.left
given_left w (asked.MoveOne e) r = omega arith
given_left w (asked.Retire e) r = omega arith
given_left w _ r = either_left (is_unrecorded r) _ _ w.left (omega arith) (omega arith)

refusal_left : (apart : Bool) (w : Reclaiming) (event : Event) (r : Refusal) → (after_refusal apart w event r).left ≤ w.left
refusal_left apart w event r = omega (arith, given_left (with_refused apart w event r) event r, noted_left apart w event r)

-- what is the same has as many
same_left : (w is : Reclaiming) (most : ℕ) → is ≡ w → w.left ≤ most → is.left ≤ most
same_left w is most same le = subst (λ (v : Reclaiming). v.left ≤ most) (sym same) le

module _ {D : Type 0} (disks : PageDisk D) where
  idle_left : (old new : View D) (was is : Reclaiming) → BeginsNone disks old was new is → is.left ≤ was.left
  idle_left old new was is (inl stays) = same_left was is was.left stays.2 (omega arith)
  idle_left old new was is (inr finds) = same_left (record was { rested = Some (length old.history) }) is was.left finds.3 (omega arith)

  turn_left : (old new : View D) (was is : Reclaiming) (result : Result Step Refusal) → IsSweepTurn disks old was result new is → is.left ≤ was.left
  turn_left old new was is (Ok step) (inl idle) = idle_left old new was is idle.1.1
  turn_left old new was is (Ok step) (inr (read, event, reply, named, next, done, answered, after)) =
      same_left (after_event was event reply) is was.left after (event_left was event reply)
  turn_left old new was is (Err r) (inl (read, event, next, refused, after)) =
      same_left (after_refusal (shape old.store.extents).apart was event r) is was.left after (refusal_left (shape old.store.extents).apart was event r)
  turn_left old new was is (Err r) (inr lacks) = same_left was is was.left lacks.2.2 (omega arith)

  -- after a turn no more sweeps are left than before
  pub turn_falls : (start : Start) (was is : Reclaiming) (result : Result Step Refusal) (most : ℕ) → WhileLocked disks start (λ old new. IsSweepTurn disks old was result new is)
      → was.left ≤ most → is.left ≤ most
  turn_falls start was is result most (old, new, behind, turn) le = omega (arith, turn_left old new was is result turn, le)
