use Rattle.std.proofs.Common.{ℕ, Option, take}
use Rattle.std.specs.Prelude.{option_copied, option_map}
use Rattle.law_machine.specs.Index.{entries_of}
use Rattle.cs_index.specs.Read.{AreStarts}
use Rattle.cs_index.specs.State.{IsNext, named_entry, newest_first}
use Rattle.cs_index.proofs.stored_runs.first_in_runs.Given as goal

abbrev pub invariant-loop-k : goal.invariant-loop-k
invariant-loop-k l = (after : Option ℕ) → AreStarts after l.runs l.places → IsNext (entries_of (newest_first (take l.k l.runs))) after (option_map named_entry (option_copied l.first))
