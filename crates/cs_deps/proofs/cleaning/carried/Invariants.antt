use Rattle.std.proofs.Common.{◌≡◌, drop}
use Rattle.cs_deps.specs.Entries.{nothing}
use Rattle.cs_deps.specs.Spent.{carried_with}
use Rattle.cs_deps.proofs.cleaning.carried.Given as goal

abbrev pub invariant-loop-k : goal.invariant-loop-k
invariant-loop-k l = carried_with l.family l.version nothing l.entries ≡ carried_with l.family l.version l.all (drop l.k l.entries)
