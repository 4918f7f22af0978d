use Rattle.std.proofs.Common.{◌≡◌, map, take}
use Rattle.cs_index.specs.State.{newest_first}
use Rattle.cs_inspect.specs.Stats.{newest_uses, run_figure}
use Rattle.cs_inspect.proofs.figures.run_uses.Given as goal

abbrev pub invariant-loop-k : goal.invariant-loop-k
invariant-loop-k l = newest_uses l.uses.items ≡ map run_figure (newest_first (take l.k l.runs))
