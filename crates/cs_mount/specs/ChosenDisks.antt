-- What clauses see of a disk of which some pages are hidden.
use Rattle.std.specs.Prelude.{ℕ, List}
use Rattle.cs_disk.specs.declared.disk.PageDisk.{Ghosts as PageDisk}
use Rattle.cs_disk.specs.Disk.{State}
use Rattle.cs_mount.specs.declared.chosen.Chosen.{Chosen}
use Rattle.cs_mount.specs.Hidden.{state_without}

-- the disk below
abbrev pub chosen_below : {D : Type 0} {disks : PageDisk D} → Chosen D disks → D
chosen_below d = d.disk

-- the pages that it hides
abbrev pub hidden_of : {D : Type 0} {disks : PageDisk D} → Chosen D disks → List ℕ
hidden_of d = d.hidden.items

-- what it shows
abbrev pub state_chosen : {D : Type 0} {disks : PageDisk D} → Chosen D disks → State
state_chosen {disks = disks} d = state_without d.hidden.items (disks.state d.disk)

-- how many writes it refused
abbrev pub refused_writes : {D : Type 0} {disks : PageDisk D} → Chosen D disks → ℕ
refused_writes d = d.refused
