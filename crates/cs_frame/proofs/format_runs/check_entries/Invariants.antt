use Rattle.std.proofs.Common.{◌≤◌, length}
use Rattle.std.specs.Prelude.{option_map}
use Rattle.cs_frame.proofs.PackedLaws.{LeftOf}
use Rattle.cs_frame.proofs.format_runs.check_entries.Given as goal

abbrev pub invariant-loop : goal.invariant-loop
invariant-loop l = record {
  inside : l.start ≤ length l.bytes;
  left : LeftOf l.count l.bytes l.counter (option_map (λ id. id.0) l.previous) l.start;
}
