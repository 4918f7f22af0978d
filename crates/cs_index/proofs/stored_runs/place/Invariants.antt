use Rattle.std.proofs.Common.{◌-◌, ◌<◌, ◌≤◌, length, map, take, drop}
use Rattle.std.specs.List.{AllByRecursion}
use Rattle.cs_index.specs.State.{id_number, named_entry}
use Rattle.cs_index.proofs.stored_runs.place.Given as goal

abbrev pub invariant-loop-low : goal.invariant-loop-low
invariant-loop-low l = record {
  order : l.low ≤ l.high;
  inside : l.high ≤ length l.entries;
  before : AllByRecursion (λ x. x.id < id_number l.id) (take l.low (map named_entry l.entries));
  behind : AllByRecursion (λ x. id_number l.id ≤ x.id) (drop l.high (map named_entry l.entries));
}

abbrev pub decreases-loop-low : goal.decreases-loop-low
decreases-loop-low l = l.high - l.low
