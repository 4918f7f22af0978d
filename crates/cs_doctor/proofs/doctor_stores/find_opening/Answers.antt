use Rattle.std.proofs.Common.{ap}
use Rattle.cs_disk.specs.Disk.{page, seen}
use Rattle.cs_doctor.proofs.DoctorOpening.{opens_not, opens_so, refused_so, scrubbed_on, unwritten_if_flushed, unwritten_then_read}
use Rattle.cs_doctor.proofs.doctor_stores.find_opening.Goals as goal

pub returns-in-Ok-clause-found : goal.returns-in-Ok-clause-found
returns-in-Ok-clause-found g c = λ h.
    let D = g.D.PageDisk in
    let disk = c.args.disk in
    let core = c.in-Ok.core in
    let there = c.in-Ok.ensures.image h in
    scrubbed_on (D.honest disk) core.opened core.found core.store c.in-Ok.ensures.store (D.page_count disk) (seen (D.state disk)) (D.state core.disk) c.scrub_core.result h there.0 (ap seen there.1) (c.scrub_core.ensures.found (c.in-Ok.ensures.honest.0 h))

pub returns-in-Ok-clause-opens : goal.returns-in-Ok-clause-opens
returns-in-Ok-clause-opens g c = λ h.
    let D = g.D.PageDisk in
    let disk = c.args.disk in
    let core = c.in-Ok.core in
    opens_so (D.page_count disk) (page (seen (D.state disk))) core.store core.found c.scrub_core.result c.scrub_core.ensures.shards (c.in-Ok.ensures.recovers h)

pub returns-in-Ok-clause-disk : goal.returns-in-Ok-clause-disk
returns-in-Ok-clause-disk g c =
    let D = g.D.PageDisk in
    let disk = c.args.disk in
    let core = c.in-Ok.core in
    unwritten_then_read D disk core.disk c.scrub_core.result (unwritten_if_flushed D disk core.disk c.in-Ok.ensures.honest c.in-Ok.ensures.pages (λ h. (c.in-Ok.ensures.image h).1) c.in-Ok.ensures.unwritten) c.scrub_core.ensures.disk

pub returns-in-Err-clause-found : goal.returns-in-Err-clause-found
returns-in-Err-clause-found g c = λ h.
    let D = g.D.PageDisk in
    let disk = c.args.disk in
    refused_so (D.page_count disk) (seen (D.state disk)) c.in-Err.refusal c.refused_on.result (c.in-Err.ensures.refusals h) c.refused_on.ensures.answered c.refused_on.ensures.refused

pub returns-in-Err-clause-opens : goal.returns-in-Err-clause-opens
returns-in-Err-clause-opens g c = λ h.
    let D = g.D.PageDisk in
    let disk = c.args.disk in
    opens_not (D.page_count disk) (page (seen (D.state disk))) c.in-Err.refusal c.refused_on.result c.refused_on.ensures.answered c.refused_on.ensures.refused (c.in-Err.ensures.recovers h)

pub returns-in-Err-clause-disk : goal.returns-in-Err-clause-disk
returns-in-Err-clause-disk g c =
    let D = g.D.PageDisk in
    let disk = c.args.disk in
    unwritten_then_read D disk c.in-Err.disk c.refused_on.result (record {
      kept = record { honesty = c.in-Err.ensures.honest; pages = c.in-Err.ensures.pages; state = c.in-Err.ensures.kept };
      device = c.in-Err.ensures.unwritten;
    }) c.refused_on.ensures.disk
