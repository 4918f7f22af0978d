use Rattle.std.proofs.Common.{◌≡◌, ◌*◌, ◌≤◌, ◌++◌, false, List, length, map}
use Rattle.law_machine.specs.Element.{Entry}
use Rattle.law_machine.specs.Geometry.{weigh_in}
use Rattle.law_machine.specs.Index.{entries_of, run_weight}
use Rattle.cs_index.specs.Sorted.{IsRunTo}
use Rattle.cs_index.specs.State.{named_entry, newest_first}
use Rattle.cs_index.proofs.Merged.{IsSmall, ids_left}
use Rattle.cs_index.proofs.counts.count_newest.Given as goal

abbrev pub invariant-loop-id : goal.invariant-loop-id
invariant-loop-id l = record {
  index : l.read.index ≡ map named_entry l.table ++ entries_of (newest_first l.runs);
  counted : (xs : List Entry) × IsRunTo false (map named_entry l.table ++ entries_of (newest_first l.runs)) l.read.after xs × (l.named ≡ length xs) × (l.weight ≡ run_weight (weigh_in l.format) xs) × (l.weight ≤ 145 * l.named);
  small : IsSmall l.read.after;
}

abbrev pub decreases-loop-id : goal.decreases-loop-id
decreases-loop-id l = ids_left l.read.after
