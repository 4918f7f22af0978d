use Rattle.std.proofs.Common.{[], sym, ap, subst, ◌∙◌, ◌<◌, ◌≤◌, List, ℕ, length, map, slice_index, get_or}
use Rattle.std.proofs.lemmas.Result.{err_from_is_err_and}
use Rattle.cs_frame.specs.Runs.{entry_in}
use Rattle.cs_frame.proofs.RunLaws.{counts, not_of_run, run_fault-spelled, run_is_read, spells}
use Rattle.cs_frame.proofs.TestLaws.{some_and_none, same_fault}
use Rattle.cs_frame.proofs.run_frames.decode_plain_run.Goals as goal

pub returns-in_err-check_run-clause-read : goal.returns-in_err-check_run-clause-read
returns-in_err-check_run-clause-read c = λ entries s. some_and_none c.in_err-check_run.ensures.fault (run_fault-spelled c.args.payload.now entries s)

pub returns-in_err-check_run-clause-memory : goal.returns-in_err-check_run-clause-memory
returns-in_err-check_run-clause-memory c = λ h.
    let p = err_from_is_err_and c.from_residual.result c.from_residual.ensures.1 in
    absurd (not_of_run c.args.payload.now (sym c.in_err-check_run.ensures.fault ∙ same_fault p.1 p.2 h))

pub entries_from-requires : goal.entries_from-requires
entries_from-requires c = subst (λ (ps : List (List ℕ)). (i : ℕ) → i < length ps → slice_index (get_or ps i []) 16 ≤ 8) (sym c.pieces_of.ensures) (counts c.args.payload.now (sym c.in_ok-check_run.ensures.fault))

pub returns-clause-spelled : goal.returns-clause-spelled
returns-clause-spelled c = spells c.args.payload.now _ c.in_ok-check_run.ensures.bytes (sym c.in_ok-check_run.ensures.fault) (c.in_ok-entries.ensures ∙ ap (map entry_in) c.pieces_of.ensures)

pub returns-clause-read : goal.returns-clause-read
returns-clause-read c = λ entries s. c.in_ok-entries.ensures ∙ ap (map entry_in) c.pieces_of.ensures ∙ run_is_read c.args.payload.now entries s
