use Rattle.std.proofs.Common.{◌≡◌, ◌∙◌, ℕ, ap₂, arith}
use Rattle.cs_chunk.proofs.Chunkings.{size_enough, size_fits, size_some}
use Rattle.law_machine.specs.Format.{Format}
use Rattle.law_machine.specs.Pieces.{piece_bytes_in}
use Rattle.cs_chunk.proofs.chunk_puts.piece_size.Goals as goal

size_is : (c : goal.After-piece_bytes) → c.piece_bytes.result ≡ piece_bytes_in c.args.extents.now.format c.args.extents.now.pages c.args.bytes
size_is c = c.piece_bytes.ensures ∙ ap₂ (λ (f : Format) (p : ℕ). piece_bytes_in f p c.args.bytes) c.geometry.ensures.format c.geometry.ensures.pages

pub returns-clause-some : goal.returns-clause-some
returns-clause-some c =
    size_some c.args.extents.now.format c.args.bytes c.piece_bytes.result c.args.extents.now.pages c.geometry.ensures.whole.geometry.fewest_pages (size_is c)

pub returns-clause-few : goal.returns-clause-few
returns-clause-few c =
    size_enough c.args.extents.now.format c.args.bytes c.piece_bytes.result c.args.extents.now.pages c.geometry.ensures.whole.geometry.fewest_pages (size_is c)
    (omega (arith, c.requires))

pub returns-clause-pages : goal.returns-clause-pages
returns-clause-pages c =
    size_fits c.args.extents.now.format c.args.bytes c.piece_bytes.result c.args.extents.now.pages c.geometry.ensures.whole.geometry.fewest_pages (size_is c)
