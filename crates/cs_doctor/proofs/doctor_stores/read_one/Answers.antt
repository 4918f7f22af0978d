use Rattle.std.proofs.Common.{◌≡◌, ◌∙◌, Err, ap, arith, length}
use Rattle.cs_disk.specs.Disk.{page, seen}
use Rattle.cs_doctor.proofs.DoctorOpening.{run_read, run_unread}
use Rattle.cs_doctor.proofs.doctor_stores.read_one.Goals as goal

pub returns-in-Ok-clause-found : goal.returns-in-Ok-clause-found
returns-in-Ok-clause-found g c = λ h.
    let disks = g.D.PageDisk in
    let count : c.len.result ≡ length c.in-Ok.run'.entries.items = omega (arith, c.len.ensures, c.in-Ok.run'.entries.ok.0) in
    run_read c.args.extents.now (page (seen (disks.state c.args.disk.now))) (disks.failure_count c.args.disk.now) (disks.failure_count c.read_run.new.disk) c.args.place c.in-Ok.run' _ (c.in-Ok.ensures.read h) c.in-Ok.ensures.place count

pub returns-in-Err-clause-found : goal.returns-in-Err-clause-found
returns-in-Err-clause-found g c = λ h.
    let disks = g.D.PageDisk in
    run_unread c.args.extents.now (page (seen (disks.state c.args.disk.now))) (disks.failure_count c.args.disk.now) (disks.failure_count c.read_run.new.disk) c.args.place c.in-Err.refusal c.unread_run.result (c.in-Err.ensures.why h) (λ e. c.read_run.ensures.cause.failed (c.in-Err.is ∙ ap Err e)) c.unread_run.ensures.answered c.unread_run.ensures.found
