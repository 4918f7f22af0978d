use Rattle.std.proofs.Common.{◌∙◌, ℕ, ◌≡◌, ◌*◌, ◌-◌, ◌≤◌, ap, arith, refl}
use Rattle.law_machine.specs.Pieces.{chunk_pages, pages_cut, share}
use Rattle.cs_options.specs.SureRooms.{chunk_count, longest_chunk, new_format, piece_size, shard_pages}
use Rattle.cs_options.proofs.CutSteps.{few_chunks, small_size, some_size}
use Rattle.cs_options.proofs.shard_cuts.Cut.of.Goals as goal

-- what the length of the pieces says of their chunks
module _ (bytes pages size chunks : ℕ) (some : 2 ≤ pages) (short : bytes ≤ 8 * (4096 * pages - 75))
    (size_is : size ≡ piece_size bytes pages) (chunks_is : chunks ≡ share bytes size) where
  some_bytes : 1 ≤ size
  some_bytes = omega (arith, size_is, some_size pages bytes some short)

  within : size ≤ 4096 * pages - 75
  within = omega (arith, size_is, small_size pages bytes some short)

  chunks_few : chunks ≤ 8
  chunks_few = rw (chunks_is ∙ ap (share bytes) size_is) (few_chunks pages bytes some short)

  count_is : chunks ≡ chunk_count bytes pages
  unfolding chunk_count
  count_is = chunks_is ∙ ap (share bytes) size_is

  longest_is : chunk_pages new_format size ≡ longest_chunk bytes pages
  unfolding longest_chunk
  longest_is = ap (chunk_pages new_format) size_is

  all_is : pages_cut new_format bytes size chunks ≡ shard_pages bytes pages
  unfolding shard_pages
  all_is = rw (size_is, count_is) refl

pub share-chunks-requires : goal.share-chunks-requires
share-chunks-requires c = some_bytes c.args.bytes c.args.pages c.piece_size-size.result _ c.requires.pages.0 c.requires.bytes c.piece_size-size.ensures refl

pub chunk_pages-requires : goal.chunk_pages-requires
chunk_pages-requires c =
    let le = within c.args.bytes c.args.pages c.piece_size-size.result _ c.requires.pages.0 c.requires.bytes c.piece_size-size.ensures refl in omega (arith, le, c.requires.pages)

pub pages_cut-requires-clause-size : goal.pages_cut-requires-clause-size
pages_cut-requires-clause-size c =
    let le = within c.args.bytes c.args.pages c.piece_size-size.result _ c.requires.pages.0 c.requires.bytes c.piece_size-size.ensures refl in omega (arith, le, c.requires.pages)

pub pages_cut-requires-clause-count : goal.pages_cut-requires-clause-count
pages_cut-requires-clause-count c =
    (omega (arith, c.share-chunks.ensures), chunks_few c.args.bytes c.args.pages _ c.share-chunks.result c.requires.pages.0 c.requires.bytes c.piece_size-size.ensures c.share-chunks.ensures)

pub returns-clause-chunks : goal.returns-clause-chunks
returns-clause-chunks c = count_is c.args.bytes c.args.pages _ c.share-chunks.result c.requires.pages.0 c.requires.bytes c.piece_size-size.ensures c.share-chunks.ensures

pub returns-clause-longest : goal.returns-clause-longest
returns-clause-longest c = c.chunk_pages.ensures.pages ∙ longest_is c.args.bytes c.args.pages _ c.share-chunks.result c.requires.pages.0 c.requires.bytes c.piece_size-size.ensures c.share-chunks.ensures

pub returns-clause-all : goal.returns-clause-all
returns-clause-all c = c.pages_cut.ensures.pages ∙ all_is c.args.bytes c.args.pages _ c.share-chunks.result c.requires.pages.0 c.requires.bytes c.piece_size-size.ensures c.share-chunks.ensures

pub returns-clause-few : goal.returns-clause-few
returns-clause-few c =
    (omega (arith, c.share-chunks.ensures), chunks_few c.args.bytes c.args.pages _ c.share-chunks.result c.requires.pages.0 c.requires.bytes c.piece_size-size.ensures c.share-chunks.ensures)

pub returns-clause-fits : goal.returns-clause-fits
returns-clause-fits c =
    let le = within c.args.bytes c.args.pages c.piece_size-size.result _ c.requires.pages.0 c.requires.bytes c.piece_size-size.ensures refl in
    (c.chunk_pages.ensures.some, omega (arith, le, c.chunk_pages.ensures.pages))
