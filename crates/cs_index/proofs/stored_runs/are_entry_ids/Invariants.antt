use Rattle.std.proofs.Common.{take}
use Rattle.std.specs.List.{AllByRecursion}
use Rattle.cs_index.specs.State.{IsId}
use Rattle.cs_index.proofs.stored_runs.are_entry_ids.Given as goal

abbrev pub invariant-loop-entry : goal.invariant-loop-entry
invariant-loop-entry l = AllByRecursion (λ entry. IsId entry.0) (take l.entry-index l.entries)
