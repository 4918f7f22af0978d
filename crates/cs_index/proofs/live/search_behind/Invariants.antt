use Rattle.std.proofs.Common.{◌≡◌, ℕ}
use Rattle.std.specs.Prelude.{option_map}
use Rattle.cs_index.specs.State.{IsAfter, id_number}
use Rattle.cs_index.proofs.Merged.{IsSmall, ids_left}
use Rattle.cs_index.proofs.Next.{NoneWithin}
use Rattle.cs_index.proofs.live.search_behind.Given as goal

abbrev pub invariant-loop-id : goal.invariant-loop-id
invariant-loop-id l = record {
  index : l.read.index ≡ l.fn.entries.index;
  none : NoneWithin l.fn.entries.index (option_map id_number l.fn.after) l.read.after l.extent;
  later : (d : ℕ) → IsAfter l.read.after d → IsAfter (option_map id_number l.fn.after) d;
  small : IsSmall l.read.after;
}

abbrev pub decreases-loop-id : goal.decreases-loop-id
decreases-loop-id l = ids_left l.read.after
