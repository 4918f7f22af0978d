use Rattle.std.proofs.Common.{◌≡◌, map}
use Rattle.cs_index.specs.State.{index_of}
use Rattle.cs_index.proofs.Merged.{IsSmall, ids_left}
use Rattle.cs_inspect.specs.Chunks.{chunk_of}
use Rattle.cs_inspect.proofs.Gathered.{AreGathered}
use Rattle.cs_inspect.proofs.listings.live_chunks.Given as goal

abbrev pub invariant-loop-id : goal.invariant-loop-id
invariant-loop-id l = record {
  index : l.read.index ≡ index_of l.index;
  gathered : AreGathered (index_of l.index) l.read.after (map chunk_of l.chunks.items);
  small : IsSmall l.read.after;
}

abbrev pub decreases-loop-id : goal.decreases-loop-id
decreases-loop-id l = ids_left l.read.after
