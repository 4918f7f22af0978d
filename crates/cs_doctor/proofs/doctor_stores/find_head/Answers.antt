use Rattle.std.proofs.Common.{◌∙◌, Err, ap}
use Rattle.cs_disk.proofs.OnlyRead.{reads_on}
use Rattle.cs_disk.specs.Disk.{page, seen}
use Rattle.cs_doctor.proofs.DoctorOpening.{head_before, head_there, none_found}
use Rattle.cs_doctor.proofs.doctor_stores.find_head.Goals as goal

pub head_found-requires : goal.head_found-requires
head_found-requires g c = head_there g.D.PageDisk c.args.disk.now c.read_head.new.disk c.read_head.ensures.disk c.in-Ok.head c.in-Ok.ensures.head

pub returns-in-Ok-clause-disk : goal.returns-in-Ok-clause-disk
returns-in-Ok-clause-disk g c = reads_on g.D.PageDisk c.args.disk.now c.read_head.new.disk c.head_found.new.disk c.read_head.ensures.disk c.head_found.ensures.disk

pub returns-in-Ok-clause-found : goal.returns-in-Ok-clause-found
returns-in-Ok-clause-found g c = λ h.
    let disks = g.D.PageDisk in
    let reads = c.read_head.ensures.disk in
    head_before (disks.page_count c.args.disk.now) (disks.page_count c.read_head.new.disk) (seen (disks.state c.args.disk.now)) (seen (disks.state c.read_head.new.disk))
    (disks.failure_count c.args.disk.now) (disks.failure_count c.read_head.new.disk) (disks.failure_count c.head_found.new.disk) c.head_found.result reads.pages (ap seen (reads.same h)) reads.failures (c.head_found.ensures.found (reads.honesty.0 h))

pub returns-in-Err-clause-found : goal.returns-in-Err-clause-found
returns-in-Err-clause-found g c = λ h.
    let disks = g.D.PageDisk in
    none_found (disks.page_count c.args.disk.now) (page (seen (disks.state c.args.disk.now))) (disks.failure_count c.args.disk.now) (disks.failure_count c.read_head.new.disk) c.in-Err.refusal c.no_head_by.result (c.in-Err.ensures.why h) (λ e. c.read_head.ensures.cause.failed (c.in-Err.is ∙ ap Err e)) c.no_head_by.ensures.answered c.no_head_by.ensures.none
