use Rattle.std.proofs.Common.{◌≡◌, ◌++◌, drop, map}
use Rattle.cs_frame.specs.Formats.{place_of}
use Rattle.cs_index.specs.State.{id_number}
use Rattle.cs_inspect.specs.Chunks.{chunk_of, chunks_from}
use Rattle.cs_inspect.proofs.listings.add_chunks.Given as goal

-- the chunks so far and those that are left are all
abbrev pub invariant-loop-chunk : goal.invariant-loop-chunk
invariant-loop-chunk l =
    map chunk_of l.chunks.items ++ chunks_from (id_number l.id) l.chunk (map place_of (drop l.chunk l.places))
    ≡ map chunk_of l.fn.chunks.items ++ chunks_from (id_number l.id) 0 (map place_of l.places)
