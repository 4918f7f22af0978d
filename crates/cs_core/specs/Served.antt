-- What a call that serves an event does to a store and its disk.
use Rattle.std.specs.Prelude.{◌≡◌, ◌≢◌, ◌≤◌, ◌⊎◌, ◌↔◌, Result, IfOk, OnErr}
use Rattle.cs_refusal.specs.declared.refusals.Refusal.TheVariants.{DeviceFault, HistoryFull}
use Rattle.cs_disk.specs.declared.disk.PageDisk.{Ghosts as PageDisk}
use Rattle.cs_disk.specs.Disk.{GoesOn, Rises}
use Rattle.cs_extent.specs.State.{shape}
use Rattle.cs_core.specs.Answered.{IsAnswered}
use Rattle.cs_core.specs.declared.events.Event.{Event}
use Rattle.cs_core.specs.declared.events.Event.TheVariants.{End, Issue}
use Rattle.cs_core.specs.declared.events.OutOfMemory.{OutOfMemory}
use Rattle.cs_core.specs.declared.events.Reply.{Reply}
use Rattle.cs_core.specs.declared.events.Reply.TheVariants.{Refused}
use Rattle.cs_core.specs.Disks.{CountsCalls, IsDiskAfter, TakesNext}
use Rattle.cs_core.specs.Stored.{Stored, but_for_room}
use Rattle.cs_core.specs.Views.{Serves}

-- The event was served: done or refused by one step of the machine, with a reply that store and disk bear out, and that
-- is given twice; or there was no memory, and store and disk hold what they held. Whatever came of it, the disk changes
-- by Issue and End alone, and the frontier doesn't fall.
pub record IsServed {D : Type 0} (disks : PageDisk D)
    (old : Stored) (before : D) (event : Event) (result : Result (Reply × Reply) OutOfMemory) (new : Stored) (after : D) : Type 0 where
  -- one reply to tell, and the same to keep in the history
  pub twice : IfOk result (λ r. r.0 ≡ r.1)
  -- it is a reply to this event, and the store is as it says
  pub answered : IfOk result (λ r. IsAnswered (but_for_room old) event r.0 (but_for_room new))
  -- 41 isn't answered: that is for the core to answer, before an event is served
  pub unlimited : IfOk result (λ r. r.0 ≢ Refused HistoryFull)
  -- the machine makes a step with it, to a state that store and disk are in then
  pub step : disks.honest before → IfOk result (λ r. Serves old (disks.state before) event r.0 new (disks.state after))
  -- how many writes and flushes were made, and what the disk holds after them
  pub calls : disks.honest before → IfOk result (λ r. CountsCalls event r.0 (disks.moment before) (disks.moment after))
  pub device : disks.honest before → IfOk result (λ r. IsDiskAfter (but_for_room old) (disks.state before) event r.0 (disks.state after))
  -- 1 is answered only where the disk's count of failures rose, or stood at its end
  pub cause : IfOk result (λ r. r.0 ≡ Refused DeviceFault → Rises (disks.failure_count before) (disks.failure_count after))
  -- that count doesn't fall, with memory or without
  pub later : disks.failure_count before ≤ disks.failure_count after
  -- a sound disk that takes what an Issue writes refuses nothing itself, with memory or without
  pub taken : disks.honest before → disks.sound before → TakesNext disks (but_for_room old) before → disks.refusal_count after ≡ disks.refusal_count before
  -- it stays sound, with memory or without, but for an Issue; and in an Issue, unless that is answered 1 or lacks memory
  pub sound : disks.sound before → (event ≡ Issue) ⊎ disks.sound after
  pub issued : disks.sound before → IfOk result (λ r. (r.0 ≡ Refused DeviceFault) ⊎ disks.sound after)
  -- without memory the store has changed by no more than how much room there is, and the disk not at all
  pub refused : OnErr result (but_for_room new ≡ but_for_room old)
  pub same : disks.honest before → OnErr result (disks.state after ≡ disks.state before)
  -- no other event than these two changes what the disk holds, with memory or without
  pub quiet : disks.honest before → (event ≡ Issue) ⊎ (event ≡ End) ⊎ (disks.state after ≡ disks.state before)
  pub rises : old.frontier ≤ new.frontier
  pub same_shape : shape new.extents ≡ shape old.extents
  -- a crash meanwhile leaves what one before it or after it might have left; the disk's honesty and its size stay
  pub time : GoesOn disks.honest disks.state disks.moment disks.left_since before after
  pub honesty : disks.honest before ↔ disks.honest after
  pub pages : disks.page_count after ≡ disks.page_count before
