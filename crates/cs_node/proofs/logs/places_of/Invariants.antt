use Rattle.std.proofs.Common.{◌≡◌, length, map, take, vec_capacity, vec_len}
use Rattle.cs_node.proofs.logs.places_of.Given as goal

abbrev pub invariant-loop-call : goal.invariant-loop-call
invariant-loop-call l = record {
  items : l.places.items ≡ map (λ c. c.place) (take l.call-index l.calls);
  count : vec_len l.places ≡ l.call-index;
  room : vec_capacity l.places ≡ length l.calls;
}
