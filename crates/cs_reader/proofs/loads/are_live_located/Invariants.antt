use Rattle.std.proofs.Common.{◌≡◌}
use Rattle.cs_index.proofs.Merged.{IsSmall, ids_left}
use Rattle.cs_index.specs.State.{index_of}
use Rattle.cs_reader.proofs.Living.{AreLocatedTo}
use Rattle.cs_reader.proofs.loads.are_live_located.Given as goal

abbrev pub invariant-loop-id : goal.invariant-loop-id
invariant-loop-id l = record {
  index : l.read.index ≡ index_of l.index;
  located : AreLocatedTo l.extents (index_of l.index) l.read.after;
  small : IsSmall l.read.after;
}

abbrev pub decreases-loop-id : goal.decreases-loop-id
decreases-loop-id l = ids_left l.read.after
