use Rattle.std.proofs.Common.{false, ◌≡◌, ◌++◌, take, length}
use Rattle.std.specs.List.{AllByRecursion, flat_map}
use Rattle.byteorder.specs.Endian.{big_bytes}
use Rattle.cs_frame.specs.Runs.{FitsEntry, entries_of, spelled_entry}
use Rattle.cs_frame.proofs.run_frames.encode_plain_run.Given as goal

abbrev pub invariant-loop-entry : goal.invariant-loop-entry
invariant-loop-entry l =
    (l.payload.items ≡ big_bytes 4 (length l.run.entries.items) ++ flat_map spelled_entry (entries_of (take l.entry-index l.run.entries.items)))
    × AllByRecursion (FitsEntry false) (entries_of (take l.entry-index l.run.entries.items))
