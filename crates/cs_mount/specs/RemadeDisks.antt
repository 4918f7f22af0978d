-- What clauses see of a disk that shows some pages as these writes would leave them.
use Rattle.std.specs.Prelude.{ℕ, List}
use Rattle.cs_disk.specs.declared.disk.PageDisk.{Ghosts as PageDisk}
use Rattle.cs_disk.specs.Disk.{State, Write}
use Rattle.cs_mount.specs.declared.remade.Remade.{Remade}
use Rattle.cs_mount.specs.Remaking.{remade_state}

-- the disk below
abbrev pub remade_below : {D : Type 0} {disks : PageDisk D} → Remade D disks → D
remade_below d = d.disk

-- the writes that it shows
abbrev pub remade_by : {D : Type 0} {disks : PageDisk D} → Remade D disks → List Write
remade_by d = d.pages.items

-- what it shows
abbrev pub state_remade : {D : Type 0} {disks : PageDisk D} → Remade D disks → State
state_remade {disks = disks} d = remade_state d.pages.items (disks.state d.disk)

-- how many writes it refused
abbrev pub remade_refused : {D : Type 0} {disks : PageDisk D} → Remade D disks → ℕ
remade_refused d = d.refused
