use Rattle.std.proofs.Common.{◌≡◌, take}
use Rattle.law_machine.specs.Apart.{any_run_on}
use Rattle.cs_index.specs.State.{newest_first}
use Rattle.cs_index.proofs.stored_runs.lies_on.Given as goal

abbrev pub invariant-loop-k : goal.invariant-loop-k
invariant-loop-k l = l.found ≡ any_run_on (newest_first (take l.k l.runs)) l.extent
