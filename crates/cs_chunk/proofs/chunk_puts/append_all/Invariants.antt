use Rattle.std.proofs.Common.{◌-◌, drop, length, take}
use Rattle.std.specs.Prelude.{map}
use Rattle.cs_chunk.specs.Puts.{IsPutSoFar}
use Rattle.cs_frame.specs.Places.{HasPlaceFor}
use Rattle.cs_chunk.proofs.chunk_puts.append_all.Given as goal

abbrev pub invariant-loop-k : goal.invariant-loop-k
invariant-loop-k l = record {
  so_far : IsPutSoFar l.initial.extents l.initial.graph (take l.k (map (λ f. f.items) l.frames)) (drop l.k (map (λ f. f.items) l.frames)) l.places.items l.extents l.graph;
  room : HasPlaceFor l.places (length l.frames - l.k);
}
