use Rattle.std.proofs.Common.{ℕ, List, [], ◌++◌, sym, subst, ap, ◌∙◌}
use Rattle.std.specs.declared.slice.Chunks.{Chunks}
use Rattle.std.specs.Io.KnownBytes.{Appends}
use Rattle.hex.specs.Hex.{encode_lower}
use Rattle.cs_advice.proofs.Appended.{appends_none, appends_same, appends_then}
use Rattle.cs_advice.proofs.Hexes.{all_done, digits_more, no_digit, one_more}
use Rattle.cs_advice.proofs.outputs.print_bytes.Goals as goal

pub loop-piece-init : goal.loop-piece-init
loop-piece-init g c =
    let contents = g.W.Write.contents c.args.writer.now in
    let same = c.into_iter-piece-iterator.ensures.into_iter_gives in (
      [],
      sym (ap (λ (items : Chunks ℕ). items.rest.now) same ∙ c.chunks-piece-items.ensures.rest),
      ap (λ (items : Chunks ℕ). items.size) same ∙ c.chunks-piece-items.ensures.size,
      appends_same contents contents [] (encode_lower []) no_digit (appends_none contents),
    )

pub loop-piece-preserved : goal.loop-piece-preserved
loop-piece-preserved g c =
    let was = c.loop-piece.invariant in
    let contents = g.W.Write.contents in
    let step = c.in-Some.ensures.steps in (
      was.0 ++ c.in-Some.piece.now,
      one_more c.args.bytes.now was.0 c.loop-piece.piece-iterator.rest.now c.in-Some.piece.now c.next.new.self.rest.now was.1 step.1.0,
      step.0 ∙ was.2,
      subst (Appends (contents c.args.writer.now) (contents c.print_piece.new.writer)) (sym (digits_more was.0 c.in-Some.piece.now))
          (appends_then (contents c.args.writer.now) (contents c.loop-piece.writer) (contents c.print_piece.new.writer) (encode_lower was.0) (encode_lower c.in-Some.piece.now) was.3 c.in_ok-print_piece.ensures),
    )

pub returns : goal.returns
returns g c =
    let was = c.loop-piece.invariant in
    let contents = g.W.Write.contents in
    subst (λ (xs : List ℕ). Appends (contents c.args.writer.now) (contents c.loop-piece.writer) (encode_lower xs))
    (all_done c.args.bytes.now was.0 c.loop-piece.piece-iterator.rest.now was.1 c.in-None.ensures.steps.1.0) was.3
