use Rattle.std.proofs.Common.{List, Option, ap, subst, sym, ◌∙◌, ℕ}
use Rattle.std.proofs.lemmas.Result.{err_from_is_err_and}
use Rattle.cs_frame.specs.declared.faults.FormatFault.{FormatFault}
use Rattle.cs_frame.specs.Faults.{HasFault}
use Rattle.cs_frame.specs.PackedRuns.{SpellsPacked, packed_fault}
use Rattle.cs_frame.proofs.FormatRunLaws.{front_passed, front_refused, fronts_pass, rest_is_packed, stored_has_none}
use Rattle.cs_frame.proofs.TestLaws.{refused_has, some_and_none}
use Rattle.cs_frame.proofs.format_runs.decode_stored_run.Goals as goal

pub returns-in_err-check_front-clause-read : goal.returns-in_err-check_front-clause-read
returns-in_err-check_front-clause-read c = λ entries s. some_and_none c.in_err-check_front.ensures.fault
    (fronts_pass c.args.front c.args.payload.now (stored_has_none c.args.front c.args.payload.now entries c.in_err-check_front.ensures.front s))

pub returns-in_err-check_front-clause-fault : goal.returns-in_err-check_front-clause-fault
returns-in_err-check_front-clause-fault c =
    let p = err_from_is_err_and c.from_residual.result c.from_residual.ensures.1 in
    refused_has c.from_residual.result _ _ _ p.1 p.2 (front_refused c.args.front c.args.payload.now _ (sym c.in_err-check_front.ensures.fault))

pub returns-clause-read : goal.returns-clause-read
returns-clause-read c = λ entries s. c.decode_packed_run.ensures.read entries
    (subst (λ (xs : List ℕ). SpellsPacked xs entries) (sym c.behind.ensures)
    (rest_is_packed c.args.front c.args.payload.now entries c.in_ok-check_front.ensures.front s))

pub returns-clause-fault : goal.returns-clause-fault
returns-clause-fault c = subst (λ (found : Option FormatFault). HasFault c.decode_packed_run.result found)
    (ap packed_fault c.behind.ensures ∙ front_passed c.args.front c.args.payload.now (sym c.in_ok-check_front.ensures.fault))
    c.decode_packed_run.ensures.fault
