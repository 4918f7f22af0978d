use Rattle.std.proofs.Common.{◌∙◌, sym}
use Rattle.std.specs.Prelude.{option_map}
use Rattle.std.proofs.lemmas.Result.{err_from_is_err_and}
use Rattle.cs_frame.proofs.RunLaws.{walk_goes_on, walk_stops}
use Rattle.cs_frame.proofs.run_frames.check_entries.Goals as goal

pub returns-in_err-check_entry : goal.returns-in_err-check_entry
returns-in_err-check_entry c =
    let p = err_from_is_err_and c.from_residual.result c.from_residual.ensures.1 in
    rw (p.1, p.2) (sym (c.loop-piece.invariant ∙ walk_stops (option_map (λ id. id.0) c.loop-piece.previous) c.args.pieces.now c.loop-piece.piece-index c.in_err-check_entry.field-0.0 c.loop-piece-test.true c.in_err-check_entry.ensures.fault))

pub loop-piece-preserved : goal.loop-piece-preserved
loop-piece-preserved c =
    c.loop-piece.invariant ∙ walk_goes_on (option_map (λ id. id.0) c.loop-piece.previous) c.args.pieces.now c.loop-piece.piece-index c.in_ok-check_entry.field-0.0 c.loop-piece-test.true c.in_ok-check_entry.ensures.fault c.in_ok-check_entry.ensures.id
