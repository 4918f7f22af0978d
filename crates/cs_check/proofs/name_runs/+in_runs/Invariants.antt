use Rattle.std.proofs.Common.{length}
use Rattle.cs_check.proofs.name_runs.+in_runs.Given as goal

abbrev pub decreases-in_runs : goal.decreases-in_runs
decreases-in_runs l = length l.elements.now
