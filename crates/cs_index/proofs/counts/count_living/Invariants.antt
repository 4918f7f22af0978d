use Rattle.std.proofs.Common.{◌≡◌, ◌++◌, List, length, map}
use Rattle.std.specs.List.{AllByRecursion}
use Rattle.law_machine.specs.Element.{Entry}
use Rattle.law_machine.specs.Index.{entries_of}
use Rattle.cs_index.specs.Held.{AreCounts}
use Rattle.cs_index.specs.Sorted.{IsMergedTo}
use Rattle.cs_index.specs.State.{IsShort, named_entry, newest_first}
use Rattle.cs_index.proofs.Merged.{IsSmall, ids_left}
use Rattle.cs_index.proofs.counts.count_living.Given as goal

abbrev pub invariant-loop-id : goal.invariant-loop-id
invariant-loop-id l = record {
  index : l.read.index ≡ map named_entry l.table ++ entries_of (newest_first l.runs);
  counted : (xs : List Entry) × IsMergedTo (map named_entry l.table ++ entries_of (newest_first l.runs)) l.read.after xs × (length xs ≡ l.count) × AreCounts l.on xs × AllByRecursion IsShort xs;
  small : IsSmall l.read.after;
}

abbrev pub decreases-loop-id : goal.decreases-loop-id
decreases-loop-id l = ids_left l.read.after
