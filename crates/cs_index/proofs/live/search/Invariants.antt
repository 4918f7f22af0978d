use Rattle.std.proofs.Common.{◌≡◌}
use Rattle.std.specs.Prelude.{option_map}
use Rattle.cs_index.specs.Live.{NoneUpTo}
use Rattle.cs_index.specs.State.{id_number}
use Rattle.cs_index.proofs.Merged.{IsSmall, ids_left}
use Rattle.cs_index.proofs.live.search.Given as goal

abbrev pub invariant-loop-id : goal.invariant-loop-id
invariant-loop-id l = record {
  index : l.read.index ≡ l.fn.entries.index;
  after : l.read.after ≡ option_map id_number l.last;
  none : NoneUpTo l.read.index l.read.after l.extent;
  small : IsSmall l.read.after;
}

abbrev pub decreases-loop-id : goal.decreases-loop-id
decreases-loop-id l = ids_left l.read.after
