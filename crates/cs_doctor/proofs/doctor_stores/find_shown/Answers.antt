use Rattle.std.proofs.Common.{ap}
use Rattle.cs_disk.specs.Disk.{seen}
use Rattle.cs_doctor.specs.DoctorStores.{OpensAs}
use Rattle.cs_doctor.proofs.DoctorOpening.{opening_moved, store_moved, unwritten_of_reads, unwritten_on}
use Rattle.cs_doctor.proofs.doctor_stores.find_shown.Goals as goal

pub returns-in-Ok-clause-opening : goal.returns-in-Ok-clause-opening
returns-in-Ok-clause-opening g c = λ h.
    let D = g.D.PageDisk in
    let first = c.args.disk in
    let mid = c.find_head.new.disk in
    let reads = c.find_head.ensures.disk in
    opening_moved (D.page_count first) (D.page_count mid) (seen (D.state first)) (seen (D.state mid)) c.in-Ok.opening reads.pages (ap seen (reads.same h)) (c.in-Ok.ensures.found (reads.honesty.0 h))

pub returns-in-Ok-clause-opens : goal.returns-in-Ok-clause-opens
returns-in-Ok-clause-opens g c = λ h.
    let D = g.D.PageDisk in
    let first = c.args.disk in
    let mid = c.find_head.new.disk in
    let reads = c.find_head.ensures.disk in
    store_moved (D.page_count first) (D.page_count mid) (seen (D.state first)) (seen (D.state mid)) (λ S n m. OpensAs m c.in-Ok.opening) reads.pages (ap seen (reads.same h)) (c.in-Ok.ensures.opens (reads.honesty.0 h))

pub returns-in-Ok-clause-head : goal.returns-in-Ok-clause-head
returns-in-Ok-clause-head g c = λ h. (g.D.PageDisk.failure_count c.find_head.new.disk, c.in_ok-head.ensures.found h)

pub returns-in-Ok-clause-disk : goal.returns-in-Ok-clause-disk
returns-in-Ok-clause-disk g c =
    let D = g.D.PageDisk in
    unwritten_on D c.args.disk c.find_head.new.disk c.in-Ok.disk (unwritten_of_reads D c.args.disk c.find_head.new.disk c.find_head.ensures.disk) c.in-Ok.ensures.disk

pub returns-in-Err-clause-opens : goal.returns-in-Err-clause-opens
returns-in-Err-clause-opens g c = λ h format extents pages sections geometry sized n m recovers. tt
