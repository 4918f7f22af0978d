use Rattle.std.specs.Prelude.{take}
use Rattle.std.specs.List.{AllZip}
use Rattle.cs_salvage.specs.Namings.{IsNaming}
use Rattle.cs_salvage.proofs.rescues.Found.namings.Given as goal

abbrev pub invariant-loop-k : goal.invariant-loop-k
invariant-loop-k l = record {
  named : AllZip (IsNaming l.self) (take l.k l.shards) l.namings.items;
}
