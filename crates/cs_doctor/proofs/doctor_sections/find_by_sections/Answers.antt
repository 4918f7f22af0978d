use Rattle.std.proofs.Common.{ap, sym}
use Rattle.cs_disk.specs.Disk.{seen}
use Rattle.cs_doctor.proofs.DoctorSections.{lacks_now, some_items}
use Rattle.cs_doctor.proofs.doctor_sections.find_by_sections.Goals as goal

pub find_remade-requires-clause-lacks : goal.find_remade-requires-clause-lacks
find_remade-requires-clause-lacks g c = λ h.
    let D = g.D.PageDisk in
    let disk = c.args.disk in
    let mid = c.sections_of.new.disk in
    let reads = c.sections_of.ensures.disk in
    let writes = c.in_ok-writes.writes in
    let some = some_items writes.items _ (sym writes.ok.0) c.if-is_empty.ensures in
    let before = reads.honesty.1 h in
    lacks_now (D.page_count disk) (D.page_count mid) (seen (D.state disk)) (seen (D.state mid)) c.args.before.opening writes.items reads.pages (ap seen (reads.same before)) c.requires.refused (c.requires.found before) some (c.in_ok-writes.ensures.made before some)
