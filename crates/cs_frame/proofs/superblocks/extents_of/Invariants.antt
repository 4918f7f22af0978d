use Rattle.std.proofs.Common.{◌≡◌, length, map, take, vec_capacity, vec_len}
use Rattle.cs_frame.specs.Pointers.{extent_in}
use Rattle.cs_frame.proofs.superblocks.extents_of.Given as goal

abbrev pub invariant-loop-bytes : goal.invariant-loop-bytes
invariant-loop-bytes l = record {
  items : l.extents.items ≡ map extent_in (take l.bytes-index l.spelled);
  count : vec_len l.extents ≡ l.bytes-index;
  room : vec_capacity l.extents ≡ length l.spelled;
}
