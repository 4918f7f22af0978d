use Rattle.std.proofs.Common.{◌≡◌, ◌<◌, ◌≤◌, ℕ, Some, length, map}
use Rattle.std.specs.Prelude.{slice_get, slice_index}
use Rattle.cs_index.specs.declared.stored_runs.StoredRun.{StoredRun}
use Rattle.cs_index.specs.Sorted.{IsPlace, IsStart}
use Rattle.cs_index.specs.State.{id_number, named_entry}
use Rattle.cs_index.proofs.stored_runs.skip_in_runs.Given as goal

abbrev pub invariant-loop-k : goal.invariant-loop-k
invariant-loop-k l = record {
  count : length l.places ≡ 24;
  moved : (j : ℕ) (run : StoredRun) → slice_get l.runs j ≡ Some run → j < l.k → IsStart (Some (id_number l.id)) (slice_index l.places j) (map named_entry run.entries.items);
  still : (j : ℕ) (run : StoredRun) → slice_get l.runs j ≡ Some run → l.k ≤ j → IsPlace (id_number l.id) (slice_index l.places j) (map named_entry run.entries.items);
}
