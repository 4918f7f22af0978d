use Rattle.std.proofs.Common.{◌≡◌, ◌≤◌, length, vec_capacity}
use Rattle.cs_disk.specs.Disk.{seen}
use Rattle.cs_disk.specs.Reads.{OnlyReads}
use Rattle.cs_salvage.specs.Frames.{AreReadAs}
use Rattle.cs_salvage.proofs.finds.read_stretch.Given as goal

abbrev pub invariant-loop-i : goal.invariant-loop-i
invariant-loop-i g l = record {
  disk : OnlyReads g.D.PageDisk l.fn.disk l.disk;
  size : length l.pages.items ≡ l.i;
  room : l.most ≤ vec_capacity l.pages;
  pages : g.D.PageDisk.honest l.fn.disk → AreReadAs (seen (g.D.PageDisk.state l.fn.disk)) l.first l.i l.pages.items;
}
