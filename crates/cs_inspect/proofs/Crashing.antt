-- What a crash leaves while frames are read.
use Rattle.std.proofs.Common.{sym, subst}
use Rattle.cs_core.proofs.Crashes.{only_before, still_before}
use Rattle.cs_disk.specs.Reads.{OnlyReads}
use Rattle.cs_disk.specs.declared.disk.PageDisk.{Ghosts as PageDisk}
use Rattle.cs_disk.specs.Disk.{Image, Leaves, LeavesOnly, MayLeave, State}

-- it leaves what it might have left before
pub crash_still : {D : Type 0} (disks : PageDisk D) (old new : D) (P : Image → Type 0) → OnlyReads disks old new → disks.honest old → Leaves (disks.state old) P
    → ((c : Image) → disks.left_since old (disks.moment old) c → MayLeave (disks.state old) c) → LeavesOnly disks.moment disks.left_since old new P
crash_still disks old new P reads there here only_now =
    still_before disks.state disks.moment disks.left_since old new P here only_now (reads.time there) (subst (λ (s : State). Leaves s P) (sym (reads.same there)) here)

-- where nothing was read
pub crash_now : {D : Type 0} (disks : PageDisk D) (disk : D) (P : Image → Type 0) → Leaves (disks.state disk) P → ((c : Image) → disks.left_since disk (disks.moment disk) c → MayLeave (disks.state disk) c)
    → LeavesOnly disks.moment disks.left_since disk disk P
crash_now disks disk P here only_now = only_before disks.state disks.moment disks.left_since disk P here only_now
