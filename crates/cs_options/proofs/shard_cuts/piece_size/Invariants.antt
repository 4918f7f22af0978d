use Rattle.std.proofs.Common.{◌≡◌}
use Rattle.law_machine.specs.Pieces.{is_cheap, share}
use Rattle.cs_options.specs.SureRooms.{new_format, piece_size}
use Rattle.cs_options.proofs.CutSteps.{found_below}
use Rattle.cs_options.proofs.shard_cuts.piece_size.Given as goal

abbrev pub invariant-loop-fewer : goal.invariant-loop-fewer
invariant-loop-fewer l =
    piece_size l.bytes l.pages ≡ found_below (is_cheap new_format l.pages l.bytes) (share l.bytes) l.most l.first l.last l.fewer
