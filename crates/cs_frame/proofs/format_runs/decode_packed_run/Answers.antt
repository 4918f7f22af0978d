use Rattle.std.proofs.Common.{List, ℕ, ap, drop, subst, sym, ◌∙◌, ◌≡◌}
use Rattle.std.proofs.lemmas.Result.{err_from_is_err_and}
use Rattle.cs_frame.specs.PackedRuns.{AreThere, packed_entries_in, packed_in}
use Rattle.cs_frame.specs.Runs.{entries_of}
use Rattle.cs_frame.proofs.PackedLaws.{entries_there, fault-spelled, not_of_run, run_is_read, spells}
use Rattle.cs_frame.proofs.TestLaws.{same_fault, some_and_none}
use Rattle.cs_frame.proofs.format_runs.decode_packed_run.Goals as goal

pub returns-in_err-count-clause-read : goal.returns-in_err-count-clause-read
returns-in_err-count-clause-read c = λ entries s. some_and_none c.in_err-count.ensures.fault (fault-spelled c.args.payload.now entries s)

pub returns-in_err-count-clause-memory : goal.returns-in_err-count-clause-memory
returns-in_err-count-clause-memory c = λ h.
    let p = err_from_is_err_and c.from_residual.result c.from_residual.ensures.1 in
    absurd (not_of_run c.args.payload.now (sym c.in_err-count.ensures.fault ∙ same_fault p.1 p.2 h))

pub entries_from-requires : goal.entries_from-requires
entries_from-requires c = subst (λ (xs : List ℕ). AreThere c.in_ok-count.count xs) (sym c.behind.ensures)
    (subst (λ (n : ℕ). AreThere n (drop 4 c.args.payload.now)) (sym c.in_ok-count.ensures.count) (entries_there c.args.payload.now (sym c.in_ok-count.ensures.fault)))

-- what was read
read : (c : goal.In_ok-entries) → entries_of c.in_ok-entries.entries.items ≡ packed_entries_in c.args.payload.now
read c = c.in_ok-entries.ensures ∙ ap (packed_in c.in_ok-count.count) c.behind.ensures
    ∙ ap (λ (n : ℕ). packed_in n (drop 4 c.args.payload.now)) c.in_ok-count.ensures.count

pub returns-clause-spelled : goal.returns-clause-spelled
returns-clause-spelled c = spells c.args.payload.now _ c.in_ok-count.ensures.bytes (sym c.in_ok-count.ensures.fault) (read c)

pub returns-clause-read : goal.returns-clause-read
returns-clause-read c = λ entries s. read c ∙ run_is_read c.args.payload.now entries s
