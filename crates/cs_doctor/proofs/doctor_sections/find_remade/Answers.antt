use Rattle.std.proofs.Common.{◌∙◌, List, ap, map, subst, sym}
use Rattle.cs_disk.specs.Disk.{Write, seen}
use Rattle.cs_mount.specs.RemadeDisks.{remade_below, state_remade}
use Rattle.cs_doctor.proofs.DoctorSections.{found_by}
use Rattle.cs_doctor.proofs.doctor_sections.find_remade.Goals as goal

pub returns-in-Ok-clause-opening : goal.returns-in-Ok-clause-opening
returns-in-Ok-clause-opening g c = λ h.
    let D = g.D.PageDisk in
    let disk = c.args.disk in
    let shown = c.new-shown.result in
    let there = subst D.honest (sym c.new-shown.ensures.below) h in
    found_by (D.page_count disk) (D.page_count (remade_below shown)) (seen (D.state disk)) (seen (state_remade shown)) c.args.before c.in-Ok.opened c.args.writes.items c.in_ok-made.made.items c.if_it_opens.result
    (c.requires.lacks h) (c.in_ok-made.ensures ∙ ap (λ (ws : List Write). map (λ w. w.0) ws) c.deref.ensures.value) (ap D.page_count c.new-shown.ensures.below) (c.new-shown.ensures.shown h) (c.in-Ok.ensures.opening there) c.if_it_opens.ensures
