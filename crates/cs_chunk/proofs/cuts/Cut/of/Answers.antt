use Rattle.std.proofs.Common.{◌≡◌, ◌∙◌, ◌+◌, ◌-◌, ◌*◌, ℕ, ap, subst, sym, arith}
use Rattle.cs_chunk.proofs.Chunkings.{last_fits}
use Rattle.cs_chunk.proofs.PieceCounts.{all_bytes, all_needed, few_enough, full_bytes, piece_count}
use Rattle.cs_frame.specs.Frames.{page_count}
use Rattle.law_machine.specs.Events.{Chunked}
use Rattle.law_machine.specs.Pieces.{head_bytes_in}
use Rattle.cs_chunk.proofs.cuts.Cut.of.Goals as goal

pub overflow_mul-count : goal.overflow_mul-count
overflow_mul-count c = omega (arith, c.ranges.bytes.fits, full_bytes c.piece_size-size.result c.args.bytes c.div_ceil.result c.max-count.result c.piece_size-size.ensures.some c.div_ceil.ensures c.max-count.ensures)

pub overflow_sub-bytes : goal.overflow_sub-bytes
overflow_sub-bytes c = full_bytes c.piece_size-size.result c.args.bytes c.div_ceil.result c.max-count.result c.piece_size-size.ensures.some c.div_ceil.ensures c.max-count.ensures

pub invariant_of-result-clause-few : goal.invariant_of-result-clause-few
invariant_of-result-clause-few c = few_enough c.piece_size-size.result c.args.bytes c.div_ceil.result c.max-count.result c.piece_size-size.ensures.some c.div_ceil.ensures c.max-count.ensures 8 (omega arith) c.piece_size-size.ensures.few

pub invariant_of-result-clause-most : goal.invariant_of-result-clause-most
invariant_of-result-clause-most c =
    last_fits c.args.bytes c.piece_size-size.result c.max-count.result c.div_ceil.result c.head_bytes-head.result c.frame_pages-2.result c.frame_pages.result c.piece_size-size.ensures.some
    c.div_ceil.ensures c.max-count.ensures c.frame_pages-2.ensures c.frame_pages.ensures

pub returns-clause-cut : goal.returns-clause-cut
returns-clause-cut c =
    let head : c.head_bytes-head.result ≡ head_bytes_in c.args.extents.now.format = c.head_bytes-head.ensures.bytes ∙ ap head_bytes_in c.format_of.ensures in record {
      size = c.piece_size-size.ensures.bytes;
      pages = c.frame_pages.ensures ∙ ap (λ (n : ℕ). page_count (n + c.piece_size-size.result)) head;
      most = few_enough c.piece_size-size.result c.args.bytes c.div_ceil.result c.max-count.result c.piece_size-size.ensures.some c.div_ceil.ensures c.max-count.ensures 8 (omega arith) c.piece_size-size.ensures.few;
      some = omega (arith, c.max-count.ensures);
      enough = all_bytes c.piece_size-size.result c.args.bytes c.div_ceil.result c.max-count.result c.piece_size-size.ensures.some c.div_ceil.ensures c.max-count.ensures;
      few = all_needed c.piece_size-size.result c.args.bytes c.div_ceil.result c.max-count.result c.piece_size-size.ensures.some c.div_ceil.ensures c.max-count.ensures;
      last = c.frame_pages-2.ensures ∙ ap (λ (n : ℕ). page_count (n + (c.args.bytes - (c.max-count.result - 1) * c.piece_size-size.result))) head;
    }

pub returns-clause-pieces : goal.returns-clause-pieces
returns-clause-pieces c = λ xs pieces same cut.
    piece_count c.piece_size-size.result c.args.bytes c.div_ceil.result c.max-count.result c.piece_size-size.ensures.some c.div_ceil.ensures c.max-count.ensures xs pieces same (subst (λ (n : ℕ). Chunked n xs pieces) (sym c.piece_size-size.ensures.bytes) cut)
