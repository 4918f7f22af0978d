-- What a core that lies behind the lock keeps.
use Rattle.std.specs.Prelude.{◌≡◌, ℕ}
use Rattle.cs_disk.specs.declared.disk.PageDisk.{Ghosts as PageDisk}
use Rattle.cs_disk.specs.Disk.{Leaves, page}
use Rattle.law_machine.specs.State.{State}
use Rattle.cs_core.specs.Meanings.{commands_said}
use Rattle.cs_core.specs.Views.{IsIn, View}
use Rattle.cs_core.specs.law_refinement.Crashes.{IsPrefix}
use Rattle.cs_node.specs.Starts.{Start, shape_at, start_of}

-- A core such as lies behind the lock: it was opened on this start, and where its disk is honest its history led to a
-- state of the machine in which disk and store are, and a crash would leave the map after some of the commands, none of
-- the persistent ones left out.
pub record IsBehind {D : Type 0} (disks : PageDisk D) (start : Start) (v : View D) : Type 0 where
  pub started : start_of v ≡ start
  pub legal : disks.honest v.disk → (s : State) × IsIn disks.state v s
  pub left : disks.honest v.disk → Leaves (disks.state v.disk) (IsPrefix (shape_at start) (page start.opened) (commands_said v.history) v.store.frontier v.store.accepted)

-- So many commands are persistent in some core such as lies behind the lock. Which core isn't told, and where its disk
-- isn't honest nothing is known of it but its start.
abbrev pub IsFrontierOfSome : {D : Type 0} → (disks : PageDisk D) → Start → ℕ → Type 0
IsFrontierOfSome {D} disks start n = (v : View D) × IsBehind disks start v × (v.store.frontier ≡ n)
