use Rattle.std.specs.Prelude.{◌≤◌, take}
use Rattle.cs_salvage.specs.Namings.{AreCounted}
use Rattle.cs_salvage.proofs.namings.count_of.Given as goal

abbrev pub invariant-loop-k : goal.invariant-loop-k
invariant-loop-k l = record {
  few : l.count ≤ l.k;
  counted : AreCounted l.naming (take l.k l.namings) l.count;
}
