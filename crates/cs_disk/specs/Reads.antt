-- What reads leave of a disk.
use Rattle.std.specs.Prelude.{◌≡◌, ◌≤◌, ◌↔◌}
use Rattle.cs_disk.specs.declared.disk.PageDisk.{Ghosts as PageDisk}
use Rattle.cs_disk.specs.Disk.{GoesOn, StaysSound}

-- The disk is as reads leave it: an honest one holds what it held, and so does the device below it; no write and no flush counts, and a crash
-- meanwhile leaves nothing that it mightn't have left before; its size and its honesty stay, and its count of failures doesn't fall; where it is
-- sound it stays so, and refuses nothing itself.
pub record OnlyReads {D : Type 0} (disks : PageDisk D) (old new : D) : Type 0 where
  pub same : disks.honest old → disks.state new ≡ disks.state old
  pub device : disks.honest old → disks.device new ≡ disks.device old
  pub still : disks.honest old → disks.moment new ≡ disks.moment old
  pub time : GoesOn disks.honest disks.state disks.moment disks.left_since old new
  pub honesty : disks.honest old ↔ disks.honest new
  pub pages : disks.page_count new ≡ disks.page_count old
  pub failures : disks.failure_count old ≤ disks.failure_count new
  pub sound : StaysSound disks.sound disks.refusal_count old new
