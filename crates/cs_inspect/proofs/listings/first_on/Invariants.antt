use Rattle.std.proofs.Common.{◌≡◌}
use Rattle.cs_index.specs.Live.{NoneUpTo}
use Rattle.cs_index.specs.State.{index_of}
use Rattle.cs_index.proofs.Merged.{IsSmall, ids_left}
use Rattle.cs_inspect.proofs.listings.first_on.Given as goal

-- nothing that was read lives on the extent
abbrev pub invariant-loop-id : goal.invariant-loop-id
invariant-loop-id l = record {
  index : l.read.index ≡ index_of l.index;
  none : NoneUpTo l.read.index l.read.after l.extent;
  small : IsSmall l.read.after;
}

abbrev pub decreases-loop-id : goal.decreases-loop-id
decreases-loop-id l = ids_left l.read.after
