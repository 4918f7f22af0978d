use Rattle.std.proofs.Common.{◌≡◌, ◌++◌, map}
use Rattle.std.specs.List.{AllByRecursion}
use Rattle.law_machine.specs.Index.{entries_of}
use Rattle.cs_index.specs.Sorted.{IsRunTo}
use Rattle.cs_index.specs.State.{IsId, IsShort, named_entry, newest_first}
use Rattle.cs_index.proofs.Merged.{IsSmall, ids_left}
use Rattle.cs_index.proofs.mergers.merged_part.Given as goal

abbrev pub invariant-loop-id : goal.invariant-loop-id
invariant-loop-id l = record {
  index : l.read.index ≡ map named_entry l.table ++ entries_of (newest_first l.runs);
  merged : IsRunTo l.without_deletions (map named_entry l.table ++ entries_of (newest_first l.runs)) l.read.after (map named_entry l.entries.items);
  ids : AllByRecursion (λ entry. IsId entry.0) l.entries.items;
  short : AllByRecursion IsShort (map named_entry l.entries.items);
  small : IsSmall l.read.after;
}

abbrev pub decreases-loop-id : goal.decreases-loop-id
decreases-loop-id l = ids_left l.read.after
