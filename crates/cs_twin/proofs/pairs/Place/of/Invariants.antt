use Rattle.std.proofs.Common.{take}
use Rattle.cs_twin.proofs.Roles.{IsOwn}
use Rattle.cs_twin.proofs.pairs.Place.of.Given as goal

abbrev pub invariant-loop-k : goal.invariant-loop-k
invariant-loop-k l = IsOwn (take l.k l.pairs) l.number
