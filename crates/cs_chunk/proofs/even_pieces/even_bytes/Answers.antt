use Rattle.std.proofs.Common.{◌∙◌, ℕ, ◌≤◌, sym, arith}
use Rattle.law_machine.specs.Pieces.{is_cheap, share}
use Rattle.cs_chunk.proofs.Sizes.{begun, fails_here, few_last, few_number, none_left, passes_here}
use Rattle.cs_chunk.proofs.even_pieces.even_bytes.Goals as goal

one_page : (pages : ℕ) → 2 ≤ pages → 1 ≤ pages
one_page pages two = omega (arith, two)

pub pages_cut-pages-requires-clause-count : goal.pages_cut-pages-requires-clause-count
pages_cut-pages-requires-clause-count c = few_number c.args.geometry.format c.args.geometry.pages c.args.bytes (one_page _ c.format.ensures.geometry.fewest_pages) c.requires c.chunk_bytes-most.result
    c.share-fewest.result c.small_bytes.result c.share.result c.min-wanted.result c.chunk_bytes-most.ensures c.share-fewest.ensures c.small_bytes.ensures.bytes c.share.ensures c.min-wanted.ensures

pub overflow_sub-fewer-end : goal.overflow_sub-fewer-end
overflow_sub-fewer-end c = few_last c.args.geometry.format c.args.geometry.pages c.args.bytes (one_page _ c.format.ensures.geometry.fewest_pages) c.requires c.chunk_bytes-most.result
    c.share-fewest.result c.small_bytes.result c.share.result c.min-wanted.result c.chunk_bytes-most.ensures c.share-fewest.ensures c.small_bytes.ensures.bytes c.share.ensures c.min-wanted.ensures

pub loop-fewer-init : goal.loop-fewer-init
loop-fewer-init c = begun c.args.geometry.format c.args.geometry.pages c.args.bytes (one_page _ c.format.ensures.geometry.fewest_pages) c.requires c.chunk_bytes-most.result
    c.share-fewest.result c.small_bytes.result c.share.result c.min-wanted.result c.chunk_bytes-most.ensures c.share-fewest.ensures c.small_bytes.ensures.bytes c.share.ensures c.min-wanted.ensures

pub returns-then-is_cheap : goal.returns-then-is_cheap
returns-then-is_cheap c =
    let le = few_last c.args.geometry.format c.args.geometry.pages c.args.bytes (one_page _ c.format.ensures.geometry.fewest_pages) c.requires c.chunk_bytes-most.result
    c.share-fewest.result c.small_bytes.result c.share.result c.min-wanted.result c.chunk_bytes-most.ensures c.share-fewest.ensures c.small_bytes.ensures.bytes c.share.ensures c.min-wanted.ensures in
    c.share-then-is_cheap.ensures ∙ sym (c.loop-fewer.invariant ∙ passes_here (is_cheap c.args.geometry.format c.args.geometry.pages c.args.bytes) (share c.args.bytes) c.chunk_bytes-most.result c.share-fewest.result c.min-wanted.result c.loop-fewer.fewer
    le c.loop-fewer-test.true (sym c.is_cheap.ensures ∙ c.if-is_cheap.true))

pub loop-fewer-preserved : goal.loop-fewer-preserved
loop-fewer-preserved c =
    let le = few_last c.args.geometry.format c.args.geometry.pages c.args.bytes (one_page _ c.format.ensures.geometry.fewest_pages) c.requires c.chunk_bytes-most.result
    c.share-fewest.result c.small_bytes.result c.share.result c.min-wanted.result c.chunk_bytes-most.ensures c.share-fewest.ensures c.small_bytes.ensures.bytes c.share.ensures c.min-wanted.ensures in
    c.loop-fewer.invariant ∙ fails_here (is_cheap c.args.geometry.format c.args.geometry.pages c.args.bytes) (share c.args.bytes) c.chunk_bytes-most.result c.share-fewest.result c.min-wanted.result c.loop-fewer.fewer
    le c.loop-fewer-test.true (sym c.is_cheap.ensures ∙ c.if-is_cheap.false)

pub returns : goal.returns
returns c = sym (c.loop-fewer.invariant ∙ none_left (is_cheap c.args.geometry.format c.args.geometry.pages c.args.bytes) (share c.args.bytes) c.chunk_bytes-most.result c.share-fewest.result c.min-wanted.result c.loop-fewer.fewer c.loop-fewer-test.false)
