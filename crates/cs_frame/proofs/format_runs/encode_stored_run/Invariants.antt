use Rattle.std.proofs.Common.{true, ◌≡◌, ◌++◌, take, length}
use Rattle.std.specs.List.{AllByRecursion, flat_map}
use Rattle.byteorder.specs.Endian.{big_bytes}
use Rattle.cs_frame.specs.PackedRuns.{packed_entry}
use Rattle.cs_frame.specs.Runs.{FitsEntry, entries_of}
use Rattle.cs_frame.proofs.format_runs.encode_stored_run.Given as goal

abbrev pub invariant-loop-entry : goal.invariant-loop-entry
invariant-loop-entry l =
    (l.payload.items
    ≡ l.fn.front ++ big_bytes 4 (length l.run.entries.items) ++ flat_map packed_entry (entries_of (take l.entry-index l.run.entries.items)))
    × AllByRecursion (FitsEntry true) (entries_of (take l.entry-index l.run.entries.items))
