use Rattle.std.proofs.Common.{◌≡◌, length, map, take, vec_capacity, vec_len}
use Rattle.cs_frame.specs.Runs.{entries_of, entry_in}
use Rattle.cs_frame.proofs.run_frames.entries_from.Given as goal

abbrev pub invariant-loop-piece : goal.invariant-loop-piece
invariant-loop-piece l = record {
  items : entries_of l.entries.items ≡ map entry_in (take l.piece-index l.pieces);
  count : vec_len l.entries ≡ l.piece-index;
  room : vec_capacity l.entries ≡ length l.pieces;
}
