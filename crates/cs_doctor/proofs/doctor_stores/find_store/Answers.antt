use Rattle.std.proofs.Common.{◌∙◌, ap, inl, subst, sym}
use Rattle.cs_disk.specs.Disk.{page, seen}
use Rattle.cs_twin.specs.Paired.{disk_below, state_shown}
use Rattle.cs_mount.specs.Showing.{shown_on}
use Rattle.cs_doctor.specs.DoctorStores.{OpensAs}
use Rattle.cs_doctor.proofs.DoctorOpening.{below_kept, head_moved, opening_moved, refused_head, refused_kept, refused_opens, refused_shown, store_moved}
use Rattle.cs_doctor.proofs.doctor_stores.find_store.Goals as goal

pub returns-in-Ok-find_shown-clause-opening : goal.returns-in-Ok-find_shown-clause-opening
returns-in-Ok-find_shown-clause-opening g c = λ h.
    let D = g.D.PageDisk in
    let disk = c.args.disk in
    let paired = c.in-Ok.paired in
    inl (opening_moved (D.page_count disk) (D.page_count (disk_below paired)) (shown_on (D.page_count disk) (seen (D.state disk))) (seen (state_shown paired)) c.in-Ok-find_shown.found.opening c.in-Ok.ensures.pages (ap seen (c.in-Ok.ensures.shown h)) (c.in-Ok-find_shown.ensures.opening (c.in-Ok.ensures.honest.0 h)))

pub returns-in-Ok-find_shown-clause-opens : goal.returns-in-Ok-find_shown-clause-opens
returns-in-Ok-find_shown-clause-opens g c = λ h one.
    let D = g.D.PageDisk in
    let disk = c.args.disk in
    let paired = c.in-Ok.paired in
    store_moved (D.page_count disk) (D.page_count (disk_below paired)) (shown_on (D.page_count disk) (seen (D.state disk))) (seen (state_shown paired)) (λ S n m. OpensAs m c.in-Ok-find_shown.found.opening) c.in-Ok.ensures.pages (ap seen (c.in-Ok.ensures.shown h)) (c.in-Ok-find_shown.ensures.opens (c.in-Ok.ensures.honest.0 h))

pub returns-in-Ok-find_shown-clause-head : goal.returns-in-Ok-find_shown-clause-head
returns-in-Ok-find_shown-clause-head g c = λ h.
    let D = g.D.PageDisk in
    let disk = c.args.disk in
    let paired = c.in-Ok.paired in
    let found = c.in-Ok-find_shown.ensures.head (c.in-Ok.ensures.honest.0 h) in
    (_, found.0, head_moved (D.page_count disk) (D.page_count (disk_below paired)) (shown_on (D.page_count disk) (seen (D.state disk))) (seen (state_shown paired)) _ found.0 c.in-Ok-find_shown.found.head c.in-Ok.ensures.pages (ap seen (c.in-Ok.ensures.shown h)) found.1)

pub returns-in-Ok-find_shown-clause-disk : goal.returns-in-Ok-find_shown-clause-disk
returns-in-Ok-find_shown-clause-disk g c =
    let D = g.D.PageDisk in
    let disk = c.args.disk in
    let before = disk_below c.in-Ok.paired in
    let now = disk_below c.in-Ok-find_shown.paired in
    let last = c.into_disk.result in
    let left = c.in-Ok-find_shown.ensures.disk in
    let there = c.in-Ok.ensures.honest in
    let still = c.into_disk.ensures in
    record {
      honesty = ((λ h. subst D.honest (sym still) (left.kept.honesty.0 (there.0 h))), (λ h. there.1 (left.kept.honesty.1 (subst D.honest still h))));
      pages = ap D.page_count still ∙ left.kept.pages ∙ c.in-Ok.ensures.pages;
      state = λ h. below_kept D disk before now last (c.in-Ok.ensures.state h) h (left.device (there.0 h)) still;
    }

pub returns-clause-opening : goal.returns-clause-opening
returns-clause-opening g c = λ h. refused_shown (g.D.PageDisk.page_count c.args.disk) (seen (g.D.PageDisk.state c.args.disk)) c.in-Err.refusal c.in-Err.disk c.refused_with.result (c.in-Err.ensures.why h) c.refused_with.ensures.answered c.refused_with.ensures.found

pub returns-clause-opens : goal.returns-clause-opens
returns-clause-opens g c = λ h one. refused_opens (g.D.PageDisk.page_count c.args.disk) (seen (g.D.PageDisk.state c.args.disk)) (page (shown_on (g.D.PageDisk.page_count c.args.disk) (seen (g.D.PageDisk.state c.args.disk)))) c.in-Err.refusal c.in-Err.disk c.refused_with.result one (c.in-Err.ensures.why h) c.refused_with.ensures.answered c.refused_with.ensures.found

pub returns-clause-head : goal.returns-clause-head
returns-clause-head g c = λ h. refused_head (g.D.PageDisk.page_count c.args.disk) (page (shown_on (g.D.PageDisk.page_count c.args.disk) (seen (g.D.PageDisk.state c.args.disk)))) c.in-Err.refusal c.in-Err.disk c.refused_with.result c.refused_with.ensures.found

pub returns-clause-disk : goal.returns-clause-disk
returns-clause-disk g c = refused_kept g.D.PageDisk c.in-Err.refusal c.args.disk c.in-Err.disk c.refused_with.result (record { honesty = c.in-Err.ensures.honest; pages = c.in-Err.ensures.pages; state = c.in-Err.ensures.state }) c.refused_with.ensures.found
