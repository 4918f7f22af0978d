use Rattle.std.proofs.Common.{◌≡◌, ◌+◌, length, map, take, vec_capacity, vec_len}
use Rattle.cs_reader.proofs.heads.new_graph.Given as goal

abbrev pub invariant-loop-section : goal.invariant-loop-section
invariant-loop-section l = record {
  items : l.versions.items ≡ map (λ it. it.version) (take l.section-index l.sections);
  count : vec_len l.versions ≡ l.section-index;
  room : vec_capacity l.versions ≡ length l.sections + 1;
}
