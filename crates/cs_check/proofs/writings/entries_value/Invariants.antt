use Rattle.cs_deps.specs.View.{pending_of}
use Rattle.cs_check.proofs.WrittenEntries.{WrittenTill}
use Rattle.cs_check.proofs.writings.entries_value.Given as goal

abbrev pub invariant-loop-k : goal.invariant-loop-k
invariant-loop-k l = WrittenTill l.letters (pending_of l.view) l.k l.values.items
