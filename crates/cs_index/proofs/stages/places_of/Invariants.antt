use Rattle.std.proofs.Common.{◌≡◌, ◌+◌, length, map, take, vec_capacity, vec_len}
use Rattle.cs_index.proofs.stages.places_of.Given as goal

abbrev pub invariant-loop-run : goal.invariant-loop-run
invariant-loop-run l = record {
  items : l.places.items ≡ map (λ run. run.place) (take l.run-index l.runs);
  count : vec_len l.places ≡ l.run-index;
  room : vec_capacity l.places ≡ length l.runs + 1;
}
