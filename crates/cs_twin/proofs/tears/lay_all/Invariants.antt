use Rattle.std.proofs.Common.{◌≡◌, take}
use Rattle.cs_disk.specs.Disk.{seen}
use Rattle.cs_disk.specs.Memory.{memory_state}
use Rattle.cs_twin.specs.Tears.{left_by}
use Rattle.cs_twin.proofs.tears.lay_all.Given as goal

abbrev pub invariant-loop-i : goal.invariant-loop-i
invariant-loop-i l = seen (memory_state l.disk) ≡ left_by (seen (memory_state l.fn.disk)) (take l.i l.writes) (take l.i l.fates)
