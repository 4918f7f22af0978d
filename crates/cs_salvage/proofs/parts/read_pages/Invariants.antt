use Rattle.std.proofs.Common.{◌≡◌, ◌≤◌, length, vec_capacity}
use Rattle.cs_disk.specs.Disk.{page, seen}
use Rattle.cs_disk.specs.Reads.{OnlyReads}
use Rattle.cs_salvage.specs.Frames.{AreReadAs}
use Rattle.cs_salvage.proofs.parts.read_pages.Given as goal

abbrev pub invariant-loop-i : goal.invariant-loop-i
invariant-loop-i g l = record {
  disk : OnlyReads g.D.PageDisk l.fn.disk l.disk;
  size : length l.pages.items ≡ l.i;
  room : l.count ≤ vec_capacity l.pages;
  pages : g.D.PageDisk.honest l.fn.disk → l.page ≡ page (seen (g.D.PageDisk.state l.fn.disk)) l.first → AreReadAs (seen (g.D.PageDisk.state l.fn.disk)) l.first l.i l.pages.items;
}
