use Rattle.std.specs.Prelude.{take}
use Rattle.cs_tools.proofs.Readable.{IsCountOf}
use Rattle.cs_tools.proofs.headers.count_unreadable.Given as goal

abbrev pub invariant-loop-used : goal.invariant-loop-used
invariant-loop-used l = IsCountOf (take l.used-index l.uses) l.count
