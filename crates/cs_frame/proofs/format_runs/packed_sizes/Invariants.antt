use Rattle.std.proofs.Common.{◌≡◌, ◌*◌, ◌≤◌, take}
use Rattle.cs_frame.specs.PackedRuns.{packed_sizes}
use Rattle.cs_frame.specs.Runs.{entries_of}
use Rattle.cs_frame.proofs.format_runs.packed_sizes.Given as goal

abbrev pub invariant-loop-entry : goal.invariant-loop-entry
invariant-loop-entry l = (l.size ≡ packed_sizes (entries_of (take l.entry-index l.entries))) × (l.size ≤ 145 * l.entry-index)
