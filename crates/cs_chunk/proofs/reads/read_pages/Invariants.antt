use Rattle.std.proofs.Common.{◌≡◌, ◌≤◌, length, vec_capacity}
use Rattle.cs_chunk.specs.Newest.{IsReadAs}
use Rattle.cs_chunk.specs.Reads.{AreReadAs}
use Rattle.cs_disk.specs.Disk.{seen}
use Rattle.cs_chunk.proofs.reads.read_pages.Given as goal
use Rattle.cs_disk.specs.Reads.{OnlyReads}

abbrev pub invariant-loop-i : goal.invariant-loop-i
invariant-loop-i g l = record {
  disk : OnlyReads g.D.PageDisk l.fn.disk l.disk;
  size : length l.pages.items ≡ l.i;
  room : l.count ≤ vec_capacity l.pages;
  pages : g.D.PageDisk.honest l.fn.disk → IsReadAs l.graph (seen (g.D.PageDisk.state l.fn.disk)) l.first l.page → AreReadAs l.graph (seen (g.D.PageDisk.state l.fn.disk)) l.first l.i l.pages.items;
}
