use Rattle.std.proofs.Common.{take}
use Rattle.std.specs.List.{AllByRecursion}
use Rattle.cs_index.specs.State.{IsId}
use Rattle.cs_index.proofs.stored_runs.are_ids.Given as goal

abbrev pub invariant-loop-run : goal.invariant-loop-run
invariant-loop-run l = AllByRecursion (λ run. AllByRecursion (λ entry. IsId entry.0) run.entries.items) (take l.run-index l.runs)
