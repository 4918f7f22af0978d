use Rattle.std.proofs.Common.{◌≡◌, ℕ, List, ◌++◌}
use Rattle.std.specs.Io.KnownBytes.{Appends}
use Rattle.hex.specs.Hex.{encode_lower}
use Rattle.cs_advice.proofs.outputs.print_bytes.Given as goal

abbrev pub invariant-loop-piece : goal.invariant-loop-piece
invariant-loop-piece g l = (done : List ℕ) × (l.bytes ≡ done ++ l.piece-iterator.rest.now) × (l.piece-iterator.size ≡ 64)
    × Appends (g.W.Write.contents l.initial.writer) (g.W.Write.contents l.writer) (encode_lower done)
