use Rattle.std.proofs.Common.{ℕ, List}
use Rattle.cs_chunk.specs.Newest.{AreNewest}
use Rattle.cs_disk.specs.Disk.{seen}
use Rattle.cs_disk.specs.Reads.{OnlyReads}
use Rattle.cs_extent.specs.State.{shape}
use Rattle.cs_chunk.proofs.Sharded.{IsMeantSoFar, IsRead}
use Rattle.cs_chunk.proofs.reads.read_chunks.Given as goal

abbrev pub invariant-loop-k : goal.invariant-loop-k
invariant-loop-k g l = record {
  disk : OnlyReads g.D.PageDisk l.fn.disk l.disk;
  read : g.D.PageDisk.honest l.fn.disk → (view : ℕ → List ℕ) → AreNewest l.graph (seen (g.D.PageDisk.state l.fn.disk)) view → IsRead l.extents view l.locators l.k l.bytes.items;
  meant : IsMeantSoFar (shape l.extents) l.locators l.k l.bytes.items;
}
