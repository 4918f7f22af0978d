use Rattle.std.proofs.Common.{◌*◌, ◌≤◌, ◌^◌, ℕ, List}
use Rattle.cs_chunk.specs.Newest.{AreNewest}
use Rattle.cs_disk.specs.Disk.{seen}
use Rattle.cs_chunk.proofs.Lengths.{AreTold}
use Rattle.cs_chunk.proofs.reads.read_lengths.Given as goal
use Rattle.cs_disk.specs.Reads.{OnlyReads}

abbrev pub invariant-loop-k : goal.invariant-loop-k
invariant-loop-k g l = record {
  disk : OnlyReads g.D.PageDisk l.fn.disk l.disk;
  small : l.total ≤ l.k * 2 ^ 32;
  told : g.D.PageDisk.honest l.fn.disk → (view : ℕ → List ℕ) → AreNewest l.graph (seen (g.D.PageDisk.state l.fn.disk)) view → AreTold l.extents view l.locators l.k l.total;
}
