use Rattle.std.proofs.Common.{◌≡◌, take}
use Rattle.cs_twin.specs.Tears.{after_sectors}
use Rattle.cs_twin.proofs.tears.lay_sectors.Given as goal

abbrev pub invariant-loop-number : goal.invariant-loop-number
invariant-loop-number l = l.page ≡ after_sectors 0 (take l.number l.sectors) l.bytes l.fn.page
