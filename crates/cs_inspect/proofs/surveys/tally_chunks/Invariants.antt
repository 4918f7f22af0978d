use Rattle.std.proofs.Common.{◌≡◌, ℕ, List, length, map, take}
use Rattle.cs_chunk.specs.Newest.{AreNewest}
use Rattle.cs_disk.specs.Disk.{seen}
use Rattle.cs_disk.specs.Reads.{OnlyReads}
use Rattle.cs_extent.specs.State.{shape}
use Rattle.cs_inspect.specs.Brim.{greatest_in}
use Rattle.cs_inspect.specs.Chunks.{chunk_of}
use Rattle.cs_inspect.specs.Uses.{AreRead, AreTallied, Head, heads_of}
use Rattle.cs_inspect.proofs.surveys.tally_chunks.Given as goal

abbrev pub invariant-loop-k : goal.invariant-loop-k
invariant-loop-k g l = record {
  live_size : length l.live.items ≡ (shape l.fn.core.store.extents).extents;
  unreadable_size : length l.unreadable.items ≡ (shape l.fn.core.store.extents).extents;
  same : l.core ≡ record l.fn.core { disk = l.core.disk };
  disk : OnlyReads g.D.PageDisk l.fn.core.disk l.core.disk;
  tallied : (read : List Head) × AreTallied read l.live.items l.unreadable.items
      × (g.D.PageDisk.honest l.fn.core.disk → (view : ℕ → List ℕ) → AreNewest l.fn.core.store.graph (seen (g.D.PageDisk.state l.fn.core.disk)) view
      → AreRead (g.D.PageDisk.failure_count l.fn.core.disk) (g.D.PageDisk.failure_count l.core.disk) (heads_of l.fn.core.store.extents view (map chunk_of (take l.k l.chunks))) read)
      × (l.greatest ≡ greatest_in read);
}
