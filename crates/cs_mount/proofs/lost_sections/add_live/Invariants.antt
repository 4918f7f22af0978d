use Rattle.std.proofs.Common.{◌≡◌}
use Rattle.cs_index.proofs.Merged.{IsSmall, ids_left}
use Rattle.cs_index.specs.State.{index_of}
use Rattle.cs_mount.proofs.LiveAdded.{AddsUpTo}
use Rattle.cs_mount.proofs.lost_sections.add_live.Given as goal

abbrev pub invariant-loop-id : goal.invariant-loop-id
invariant-loop-id l = record {
  index : l.read.index ≡ index_of l.index;
  adds : AddsUpTo (index_of l.index) l.fn.places.items l.read.after l.named.items;
  small : IsSmall l.read.after;
}

abbrev pub decreases-loop-id : goal.decreases-loop-id
decreases-loop-id l = ids_left l.read.after
