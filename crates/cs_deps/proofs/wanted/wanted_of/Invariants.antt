use Rattle.std.proofs.Common.{take, length}
use Rattle.cs_deps.specs.Entries.{waiting_of}
use Rattle.cs_deps.specs.Levels.{live_of}
use Rattle.cs_deps.specs.Wanted.{IsWantedFrom}
use Rattle.cs_deps.proofs.wanted.wanted_of.Given as goal

abbrev pub invariant-loop-k : goal.invariant-loop-k
invariant-loop-k l = IsWantedFrom (record { persistent = l.persistent; waiting = waiting_of l.persistent (live_of l.levels l.floors l.entries) }) l.persistent (live_of l.levels l.floors l.entries) l.fn.target (length (live_of l.levels l.floors (take l.k l.entries))) l.wanted
