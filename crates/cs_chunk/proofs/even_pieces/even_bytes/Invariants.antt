use Rattle.std.proofs.Common.{◌≡◌}
use Rattle.law_machine.specs.Pieces.{even_bytes, is_cheap, share}
use Rattle.cs_chunk.proofs.Sizes.{found_below}
use Rattle.cs_chunk.proofs.even_pieces.even_bytes.Given as goal

abbrev pub invariant-loop-fewer : goal.invariant-loop-fewer
invariant-loop-fewer l =
    even_bytes l.geometry.format l.geometry.pages l.bytes
    ≡ found_below (is_cheap l.geometry.format l.geometry.pages l.bytes) (share l.bytes) l.most l.fewest l.wanted l.fewer
