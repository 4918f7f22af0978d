use Rattle.std.proofs.Common.{sym}
use Rattle.cs_disk.specs.Disk.{seen}
use Rattle.cs_doctor.proofs.DoctorOpening.{shown_moved}
use Rattle.cs_doctor.proofs.DoctorSections.{seen_kept}
use Rattle.cs_doctor.proofs.doctor_sections.find_with_sections.Goals as goal

pub find_by_sections-requires-clause-found : goal.find_by_sections-requires-clause-found
find_by_sections-requires-clause-found g c = λ h.
    let D = g.D.PageDisk in
    let disk = c.args.disk in
    let now = c.in-Ok.disk in
    let kept = c.in-Ok.ensures.disk in
    let before = kept.honesty.1 h in
    shown_moved (D.page_count now) (D.page_count disk) (seen (D.state now)) (seen (D.state disk)) c.in-Ok.store.opening (sym kept.pages) (sym (seen_kept (D.state disk) (D.state now) (kept.state before))) (c.in-Ok.ensures.opening before)
