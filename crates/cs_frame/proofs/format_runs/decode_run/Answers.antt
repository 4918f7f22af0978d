use Rattle.std.proofs.Common.{List, subst, ℕ}
use Rattle.law_machine.specs.Format.{Format}
use Rattle.cs_frame.specs.Faults.{HasFault}
use Rattle.cs_frame.specs.FormatRuns.{run_fault, stored_fault}
use Rattle.cs_frame.proofs.format_runs.decode_run.Goals as goal

pub returns-in-Two-clause-fault : goal.returns-in-Two-clause-fault
returns-in-Two-clause-fault c = subst (λ (f : Format). HasFault c.decode_plain_run.result (run_fault f c.args.payload.now)) c.in-Two.ensures.view
    c.decode_plain_run.ensures.fault

pub returns-in-Four-clause-fault : goal.returns-in-Four-clause-fault
returns-in-Four-clause-fault c = subst (λ (f : Format). HasFault c.decode_stored_run.result (run_fault f c.args.payload.now)) c.in-Four.ensures.view
    (subst (λ (front : List ℕ). HasFault c.decode_stored_run.result (stored_fault front c.args.payload.now)) c.front.ensures.value
    c.decode_stored_run.ensures.fault)
