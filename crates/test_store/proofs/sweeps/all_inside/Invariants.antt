use Rattle.std.proofs.Common.{◌≡◌}
use Rattle.cs_index.specs.State.{index_of}
use Rattle.cs_index.proofs.Merged.{IsSmall, ids_left}
use Rattle.test_store.proofs.Places.{HaveUpTo, IsThere}
use Rattle.test_store.proofs.sweeps.all_inside.Given as goal

abbrev pub invariant-loop-id : goal.invariant-loop-id
invariant-loop-id l = record {
  index : l.entries.index ≡ index_of l.index;
  have : HaveUpTo (IsThere l.extents l.pages) l.entries.index l.entries.after;
  small : IsSmall l.entries.after;
}

abbrev pub decreases-loop-id : goal.decreases-loop-id
decreases-loop-id l = ids_left l.entries.after
