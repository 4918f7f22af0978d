-- What an event does to a disk.
use Rattle.std.specs.Prelude.{◌≡◌, ◌⊎◌, ◌+◌, ◌≤◌, ◌↔◌, ℕ, List, Some, Result, Ok, Err, false, slice_get}
use Rattle.cs_chunk.specs.Reads.{IsCaused}
use Rattle.cs_deps.specs.declared.elements.Element.{Element as Name}
use Rattle.cs_refusal.specs.declared.refusals.Refusal.{Refusal}
use Rattle.cs_refusal.specs.declared.refusals.Refusal.TheVariants.{DeviceFault, OutOfMemory}
use Rattle.cs_deps.specs.State.{write_of}
use Rattle.cs_disk.specs.declared.disk.PageDisk.{Ghosts as PageDisk}
use Rattle.cs_disk.specs.Disk.{GoesOn, State as DiskState, flushed, written}
use Rattle.cs_core.specs.declared.events.Event.{Event}
use Rattle.cs_core.specs.declared.events.Event.TheVariants.{End, Issue}
use Rattle.cs_core.specs.declared.events.Reply.{Reply}
use Rattle.cs_core.specs.declared.events.Reply.TheVariants.{Ended, Issued, Refused}
use Rattle.cs_core.specs.Stored.{Stored, but_for_room, members_of}

-- The next member of the round was written to its page, with the bytes that the graph keeps for it.
pub record IsMemberWritten (old : Stored) (disk : DiskState) (x : Name) (page : ℕ) (after : DiskState) : Type 0 where
  pub next : slice_get (members_of old.out) old.issued ≡ Some x
  pub bytes : List ℕ
  pub kept : write_of old.graph x ≡ Some (page, bytes)
  pub write : after ≡ written disk page bytes

-- What an honest disk holds after an event with this reply: Issue makes one write, and where that fails it may be there
-- or not; End makes one flush, and where that fails nothing is flushed; no other event, and no other refusal, writes or
-- flushes.
abbrev pub IsDiskAfter : (old : Stored) (disk : DiskState) → Event → Reply → (after : DiskState) → Type 0
IsDiskAfter old disk Issue (Issued x page) after = IsMemberWritten old disk x page after
IsDiskAfter old disk Issue (Refused DeviceFault) after = (after ≡ disk) ⊎ ((x : Name) × (page : ℕ) × IsMemberWritten old disk x page after)
IsDiskAfter old disk End (Ended n) after = after ≡ flushed disk
IsDiskAfter old disk event reply after = after ≡ disk

-- An Issue writes these bytes to this page: no write and no flush failed before, and the next member of the round goes
-- there with them.
pub record IsWrittenNext (store : Stored) (page : ℕ) (bytes : List ℕ) : Type 0 where
  pub running : store.halted ≡ false
  pub member : Name
  pub next : slice_get (members_of store.out) store.issued ≡ Some member
  pub kept : write_of store.graph member ≡ Some (page, bytes)

-- the disk takes what an Issue writes to it, if it writes anything
abbrev pub TakesNext : {D : Type 0} → (disks : PageDisk D) → Stored → D → Type 0
TakesNext disks store disk = (page : ℕ) (bytes : List ℕ) → IsWrittenNext store page bytes → disks.takes disk page bytes

-- How many writes and flushes were made, from the count before an event to the one after it: one by Issue and one by
-- End; one or none where that call fails; none by any other event or refusal. Want of memory is no reply; its lines are
-- for the calls below `apply`.
abbrev pub CountsCalls : Event → Reply → (before now : ℕ) → Type 0
CountsCalls Issue (Issued x page) before now = now ≡ before + 1
CountsCalls End (Ended n) before now = now ≡ before + 1
CountsCalls Issue (Refused DeviceFault) before now = now ≤ before + 1
CountsCalls End (Refused DeviceFault) before now = now ≤ before + 1
CountsCalls Issue (Refused OutOfMemory) before now = now ≤ before + 1
CountsCalls End (Refused OutOfMemory) before now = now ≤ before + 1
CountsCalls event reply before now = now ≡ before

-- the reply to tell: `told` of what was given, else the refusal
abbrev pub reply_of : {T : Type 0} → (told : T → Reply) → Result T Refusal → Reply
reply_of told (Ok x) = told x
reply_of told (Err r) = Refused r

-- A call that does an event with this result writes and flushes as its reply has it, and no more: an honest disk counts
-- so many calls and holds that then. Its honesty and its size stay.
pub record WritesAsTold {D T : Type 0} (disks : PageDisk D)
    (old : Stored) (before : D) (event : Event) (told : T → Reply) (result : Result T Refusal) (after : D) : Type 0 where
  pub calls : disks.honest before → CountsCalls event (reply_of told result) (disks.moment before) (disks.moment after)
  pub device : disks.honest before → IsDiskAfter (but_for_room old) (disks.state before) event (reply_of told result) (disks.state after)
  -- 1 is answered only where the disk's count of failures rose, or stood at its end
  pub cause : IsCaused (disks.failure_count before) (disks.failure_count after) result
  -- a crash meanwhile leaves what one before it or after it might have left
  pub time : GoesOn disks.honest disks.state disks.moment disks.left_since before after
  pub honesty : disks.honest before ↔ disks.honest after
  pub pages : disks.page_count after ≡ disks.page_count before
