use Rattle.std.proofs.Common.{◌∙◌, subst}
use Rattle.cs_disk.specs.Disk.{page, seen}
use Rattle.cs_frame.specs.FormatRuns.{run_fault}
use Rattle.cs_frame.specs.Runs.{IsRun}
use Rattle.law_machine.specs.Format.{Format}
use Rattle.cs_reader.proofs.Loading.{fault_or_none, frame_not_read, fresh_view, is_run, memory_or_fault, no_device, not_caused, run_not_read, run_read}
use Rattle.cs_reader.proofs.Ranges.{frame_refused, run_refused}
use Rattle.cs_reader.proofs.loads.read_run.Goals as goal

pub returns-in-Ok-decode_run-clause-read : goal.returns-in-Ok-decode_run-clause-read
returns-in-Ok-decode_run-clause-read g c = λ h.
    let image = seen (g.D.PageDisk.state c.args.disk.now) in
    run_read c.args.extents.now (page image) c.args.place c.if-not-is_located.ensures c.in-Ok.frame c.payload.result.now c.payload.ensures.value
    (c.in-Ok.ensures.payload h (page image) (fresh_view c.args.graph.now image c.requires.none)) c.format.result (c.format.ensures.format ∙ c.geometry.ensures.format) c.in-Ok-decode_run.run'.entries c.in-Ok-decode_run.ensures.spelled

pub returns-in-Ok-decode_run-clause-run : goal.returns-in-Ok-decode_run-clause-run
returns-in-Ok-decode_run-clause-run g c =
    subst (λ (f : Format). IsRun f (record { entries = c.in-Ok-decode_run.run'.entries })) (c.format.ensures.format ∙ c.geometry.ensures.format)
    (is_run c.format.result c.in-Ok-decode_run.run'.entries c.payload.result.now c.in-Ok-decode_run.ensures.spelled)

pub returns-clause-why : goal.returns-clause-why
returns-clause-why g c = λ h.
    let image = seen (g.D.PageDisk.state c.args.disk.now) in
    let fault = c.in-Err-decode_run.fault in
    run_not_read c.args.extents.now (page image) c.args.place c.if-not-is_located.ensures c.in-Ok.frame c.payload.result.now c.payload.ensures.value
    (c.in-Ok.ensures.payload h (page image) (fresh_view c.args.graph.now image c.requires.none)) c.format.result (c.format.ensures.format ∙ c.geometry.ensures.format) c.refusal_of_fault.result
    (fault_or_none fault (run_fault c.format.result c.payload.result.now) c.refusal_of_fault.result c.refusal_of_fault.ensures.same (λ ne. (c.decode_run.ensures.fault fault ne).0 c.in-Err-decode_run.is))

pub returns-clause-number : goal.returns-clause-number
returns-clause-number g c =
    let fault = c.in-Err-decode_run.fault in
    run_refused c.format.result c.payload.result.now c.refusal_of_fault.result
    (memory_or_fault fault (run_fault c.format.result c.payload.result.now) c.refusal_of_fault.result c.refusal_of_fault.ensures.same (λ ne. (c.decode_run.ensures.fault fault ne).0 c.in-Err-decode_run.is))

pub returns-clause-cause : goal.returns-clause-cause
returns-clause-cause g c = not_caused (g.D.PageDisk.failure_count c.args.disk.now) (g.D.PageDisk.failure_count c.frame_at.new.disk) c.refusal_of_fault.result c.frame_at.ensures.cause.later (no_device c.in-Err-decode_run.fault c.refusal_of_fault.result c.refusal_of_fault.ensures.same)

pub returns-in-Err-clause-why : goal.returns-in-Err-clause-why
returns-in-Err-clause-why g c = λ h.
    let image = seen (g.D.PageDisk.state c.args.disk.now) in
    frame_not_read c.args.extents.now (page image) c.args.place c.in-Err.refusal c.if-not-is_located.ensures
    (c.in-Err.ensures.fault h (page image) (fresh_view c.args.graph.now image c.requires.none))

pub returns-in-Err-clause-number : goal.returns-in-Err-clause-number
returns-in-Err-clause-number g c = frame_refused c.in-Err.refusal c.in-Err.ensures.refusals
