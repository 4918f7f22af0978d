-- What clauses see of a disk that shows a store as of an older root.
use Rattle.std.specs.Prelude.{ℕ}
use Rattle.cs_disk.specs.declared.disk.PageDisk.{Ghosts as PageDisk}
use Rattle.cs_disk.specs.Disk.{Image, State}
use Rattle.cs_frame.specs.Geometries.{Dimensions}
use Rattle.cs_mount.specs.declared.as_of.AsOf.{AsOf}
use Rattle.cs_mount.specs.Lowered.{lowered_at, lowered_state}
use Rattle.cs_mount.specs.Repaged.{left_repaged}

-- the disk below
abbrev pub shown_below : {D : Type 0} {disks : PageDisk D} → AsOf D disks → D
shown_below d = d.disk

-- the dimensions of the store
abbrev pub dimensions_of : {D : Type 0} {disks : PageDisk D} → AsOf D disks → Dimensions
dimensions_of d = d.geometry

-- the version of the root
abbrev pub root_of : {D : Type 0} {disks : PageDisk D} → AsOf D disks → ℕ
root_of d = d.root

-- what it shows
abbrev pub state_lowered : {D : Type 0} {disks : PageDisk D} → AsOf D disks → State
state_lowered {disks = disks} d = lowered_state d.geometry d.root (disks.state d.disk)

-- how many writes it refused
abbrev pub refused_of : {D : Type 0} {disks : PageDisk D} → AsOf D disks → ℕ
refused_of d = d.refused

-- its moment, and the images that a crash at some moment from one on might have left, as they show
abbrev pub moment_shown : {D : Type 0} {disks : PageDisk D} → AsOf D disks → ℕ
moment_shown {disks = disks} d = disks.moment d.disk

abbrev pub left_lowered : {D : Type 0} {disks : PageDisk D} → AsOf D disks → ℕ → Image → Type 0
left_lowered {disks = disks} d = left_repaged (lowered_at d.geometry d.root) (disks.left_since d.disk)
