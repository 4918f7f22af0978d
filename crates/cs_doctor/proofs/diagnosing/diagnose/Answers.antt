use Rattle.std.proofs.Common.{ap}
use Rattle.cs_disk.specs.Disk.{seen}
use Rattle.cs_mount.specs.Hidden.{without_hidden}
use Rattle.cs_doctor.proofs.DoctorOpening.{of_store_moved}
use Rattle.cs_doctor.proofs.DoctorSections.{found_moved}
use Rattle.cs_doctor.proofs.diagnosing.diagnose.Goals as goal

pub returns-in-Ok-clause-opening : goal.returns-in-Ok-clause-opening
returns-in-Ok-clause-opening g c = λ h.
    let D = g.D.PageDisk in
    let first = c.args.disk in
    let mid = c.look_into.new.disk in
    let reads = c.look_into.ensures.disk in
    let passed = c.in-Ok.found.hidden.items in
    found_moved (D.page_count first) (D.page_count mid) (without_hidden passed (seen (D.state first))) (without_hidden passed (seen (D.state mid))) c.in-Ok.found.found.made.items c.in-Ok.found.found.store.opening reads.pages
    (ap (λ s. without_hidden passed (seen s)) (reads.same h)) (c.in-Ok.ensures.opening (reads.honesty.0 h))

pub returns-in-Ok-clause-hidden : goal.returns-in-Ok-clause-hidden
returns-in-Ok-clause-hidden g c = λ h.
    let D = g.D.PageDisk in
    let first = c.args.disk in
    let mid = c.look_into.new.disk in
    let reads = c.look_into.ensures.disk in
    let passed = c.in-Ok.found.hidden.items in
    of_store_moved (D.page_count first) (D.page_count mid) passed (seen (D.state first)) (seen (D.state mid)) reads.pages (ap seen (reads.same h)) (c.in-Ok.ensures.hidden (reads.honesty.0 h))

pub returns-in-Ok-clause-look : goal.returns-in-Ok-clause-look
returns-in-Ok-clause-look g c = λ h some. (g.D.PageDisk.failure_count c.look_into.new.disk, c.in_ok-looked.ensures.look h some)
