-- What clauses see of a disk in memory that tears pages.
use Rattle.cs_disk.specs.Disk.{State}
use Rattle.cs_disk.specs.Memory.{memory_state}
use Rattle.cs_twin.specs.declared.tears.TearDisk.{TearDisk}

-- its durable image and its volatile writes
abbrev pub tear_state : TearDisk → State
tear_state d = memory_state d.disk
