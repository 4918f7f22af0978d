use Rattle.std.proofs.Common.{◌≡◌, ◌≤◌, ◌-◌, ◌++◌, drop, length, vec_capacity, vec_len}
use Rattle.cs_frame.specs.PackedRuns.{AreThere, packed_in}
use Rattle.cs_frame.specs.Runs.{entries_of}
use Rattle.cs_frame.proofs.format_runs.entries_from.Given as goal

abbrev pub invariant-loop : goal.invariant-loop
invariant-loop l = record {
  inside : l.start ≤ length l.bytes;
  there : AreThere (l.count - l.counter) (drop l.start l.bytes);
  items : entries_of l.entries.items ++ packed_in (l.count - l.counter) (drop l.start l.bytes) ≡ packed_in l.count l.bytes;
  count : vec_len l.entries ≡ l.counter;
  room : vec_capacity l.entries ≡ l.count;
}
