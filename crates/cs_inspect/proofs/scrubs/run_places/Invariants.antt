use Rattle.std.proofs.Common.{◌≡◌, length, map, take, vec_capacity, vec_len}
use Rattle.cs_inspect.proofs.scrubs.run_places.Given as goal

abbrev pub invariant-loop-run : goal.invariant-loop-run
invariant-loop-run l = record {
  items : l.found.items ≡ map (λ run. run.place) (take l.run-index l.runs);
  count : vec_len l.found ≡ l.run-index;
  room : vec_capacity l.found ≡ length l.runs;
}
