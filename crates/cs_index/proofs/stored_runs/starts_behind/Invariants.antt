use Rattle.std.proofs.Common.{◌≡◌, ◌<◌, ℕ, Some, length, map}
use Rattle.std.specs.Prelude.{slice_get, slice_index}
use Rattle.cs_index.specs.declared.stored_runs.StoredRun.{StoredRun}
use Rattle.cs_index.specs.Sorted.{IsStart}
use Rattle.cs_index.specs.State.{id_number, named_entry}
use Rattle.cs_index.proofs.stored_runs.starts_behind.Given as goal

abbrev pub invariant-loop-k : goal.invariant-loop-k
invariant-loop-k l = record {
  count : length l.starts ≡ 24;
  begun : (j : ℕ) (run : StoredRun) → slice_get l.runs j ≡ Some run → j < l.k → IsStart (Some (id_number l.id)) (slice_index l.starts j) (map named_entry run.entries.items);
}
