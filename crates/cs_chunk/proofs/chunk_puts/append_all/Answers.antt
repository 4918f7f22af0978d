use Rattle.std.proofs.Common.{◌∷◌, ◌+◌, [], ap, arith, drop, length, length-append}
use Rattle.std.specs.Prelude.{map}
use Rattle.cs_chunk.specs.Puts.{MayPut}
use Rattle.cs_chunk.proofs.Putting.{done_at, left_at, next_room, not_worn, so_far_at, so_far_done}
use Rattle.cs_chunk.proofs.chunk_puts.append_all.Goals as goal

next : (c : goal.After-deref) → MayPut c.loop-k.extents c.loop-k.graph (c.deref.result.now ∷ drop (c.loop-k.k + 1) (map (λ f. f.items) c.args.frames.now))
next c =
    (so_far_at c.args.extents.now c.args.graph.now _ _ c.deref.result.now _ _ c.loop-k.extents c.loop-k.graph
    (left_at (λ f. f.items) c.args.frames.now c.loop-k.k c.index-frames-k.result c.deref.result.now c.loop-k-test.true c.index-frames-k.is c.deref.ensures.value) c.loop-k.invariant.so_far).may

pub append_one-place-requires-clause-ready : goal.append_one-place-requires-clause-ready
append_one-place-requires-clause-ready c = (next c).ready

pub append_one-place-requires-clause-pages : goal.append_one-place-requires-clause-pages
append_one-place-requires-clause-pages c = (next c).pages.0

pub append_one-place-requires-clause-place : goal.append_one-place-requires-clause-place
append_one-place-requires-clause-place c = ((next c).fits.0, (next c).fits.1)

pub append_one-place-requires-clause-numbers : goal.append_one-place-requires-clause-numbers
append_one-place-requires-clause-numbers c = not_worn c.loop-k.extents c.loop-k.graph c.deref.result.now _ (next c)

pub append_one-place-requires-clause-room : goal.append_one-place-requires-clause-room
append_one-place-requires-clause-room c = next_room c.loop-k.extents c.loop-k.graph c.deref.result.now _ (next c)

pub loop-k-preserved : goal.loop-k-preserved
loop-k-preserved c = record {
  so_far = rw c.push_reserved.ensures.items (so_far_done c.args.extents.now c.args.graph.now _ _ _ c.deref.result.now _ _ c.loop-k.extents c.loop-k.graph c.append_one-place.result c.append_one-place.new.extents c.append_one-place.new.graph
      (left_at (λ f. f.items) c.args.frames.now c.loop-k.k c.index-frames-k.result c.deref.result.now c.loop-k-test.true c.index-frames-k.is c.deref.ensures.value)
      (done_at (λ f. f.items) c.args.frames.now c.loop-k.k c.index-frames-k.result c.deref.result.now c.loop-k-test.true c.index-frames-k.is c.deref.ensures.value)
      c.loop-k.invariant.so_far c.append_one-place.ensures.appended c.append_one-place.ensures.whole c.append_one-place.ensures.ready c.append_one-place.ensures.room);
  room = omega (arith, c.loop-k.invariant.room, ap length c.push_reserved.ensures.items, length-append c.loop-k.places.items (c.append_one-place.result ∷ []), c.push_reserved.ensures.capacity, c.loop-k-test.true);
}
