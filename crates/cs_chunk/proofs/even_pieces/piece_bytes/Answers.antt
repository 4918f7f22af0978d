use Rattle.std.proofs.Common.{◌≡◌, ◌≤◌, true, arith}
use Rattle.law_machine.specs.Pieces.{evenly_in}
use Rattle.cs_chunk.proofs.Sizes.{piece_alone}
use Rattle.cs_chunk.proofs.even_pieces.piece_bytes.Goals as goal

pub returns-then-bytes-small_bytes : goal.returns-then-bytes-small_bytes
returns-then-bytes-small_bytes c =
    piece_alone c.args.geometry.format c.args.geometry.pages c.args.bytes c.small_bytes.result c.max.result
    (let one : 1 ≤ c.args.geometry.pages = omega (arith, c.format.ensures.geometry.fewest_pages) in one)
    (let on : evenly_in c.args.geometry.format ≡ true = cc (c.if-not-cuts_evenly.ensures, c.format.ensures.format) in on)
    c.small_bytes.ensures.bytes c.if-bytes-small_bytes.true c.max.ensures
