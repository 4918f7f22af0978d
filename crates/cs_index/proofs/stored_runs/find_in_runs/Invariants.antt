use Rattle.std.proofs.Common.{◌≡◌, ◌-◌, length, take}
use Rattle.law_machine.specs.Index.{entries_of, lookup}
use Rattle.cs_index.specs.State.{id_number, newest_first}
use Rattle.cs_index.proofs.stored_runs.find_in_runs.Given as goal

abbrev pub invariant-loop-k : goal.invariant-loop-k
invariant-loop-k l =
    lookup (id_number l.id) (entries_of (newest_first l.runs)) ≡ lookup (id_number l.id) (entries_of (newest_first (take (length l.runs - l.k) l.runs)))
