use Rattle.std.proofs.Common.{◌-◌, ◌≤◌, length, take}
use Rattle.cs_salvage.specs.Missing.{AreMissing}
use Rattle.cs_salvage.proofs.Grouping.{IsCut}
use Rattle.cs_salvage.proofs.whole_shards.missing_puts.Given as goal

abbrev pub invariant-loop-start : goal.invariant-loop-start
invariant-loop-start l = record {
  inside : l.start ≤ length l.sorted.items;
  cut : IsCut l.sorted.items l.start;
  found : AreMissing (take l.start l.sorted.items) l.missing.items;
}

abbrev pub decreases-loop-start : goal.decreases-loop-start
decreases-loop-start l = length l.sorted.items - l.start
