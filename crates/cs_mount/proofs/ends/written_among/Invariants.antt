use Rattle.std.proofs.Common.{◌≡◌, ◌<◌, ◌≤◌, ℕ}
use Rattle.cs_disk.specs.Disk.{page, seen}
use Rattle.cs_disk.specs.Reads.{OnlyReads}
use Rattle.cs_mount.specs.Makings.{zero_page}
use Rattle.cs_mount.proofs.ends.written_among.Given as goal

abbrev pub invariant-loop-number : goal.invariant-loop-number
invariant-loop-number g l = record {
  disk : OnlyReads g.D.PageDisk l.fn.disk l.disk;
  zeros : g.D.PageDisk.honest l.fn.disk → (p : ℕ) → l.fn.from ≤ p → p < l.number → page (seen (g.D.PageDisk.state l.fn.disk)) p ≡ zero_page;
}
