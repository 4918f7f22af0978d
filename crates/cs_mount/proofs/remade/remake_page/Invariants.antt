use Rattle.std.proofs.Common.{◌≡◌, take}
use Rattle.cs_disk.specs.Disk.{latest}
use Rattle.cs_mount.proofs.remade.remake_page.Given as goal

abbrev pub invariant-loop-k : goal.invariant-loop-k
invariant-loop-k l = l.bytes ≡ latest (take l.k l.pages) l.number l.fn.bytes
