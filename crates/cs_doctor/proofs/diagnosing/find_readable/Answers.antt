use Rattle.std.proofs.Common.{List, subst, ℕ}
use Rattle.cs_disk.specs.Disk.{seen}
use Rattle.cs_mount.specs.ChosenDisks.{chosen_below, hidden_of, state_chosen}
use Rattle.cs_mount.specs.Hidden.{without_hidden}
use Rattle.cs_mount.specs.Unreadable.{AreOfStore}
use Rattle.cs_doctor.proofs.DoctorOpening.{shown_without}
use Rattle.cs_doctor.proofs.DoctorSections.{found_moved}
use Rattle.cs_doctor.proofs.diagnosing.find_readable.Goals as goal

pub returns-in-Ok-find_with_sections-clause-opening : goal.returns-in-Ok-find_with_sections-clause-opening
returns-in-Ok-find_with_sections-clause-opening g c = λ h.
    let D = g.D.PageDisk in
    let disk = c.args.disk in
    let shown = c.in-Ok.shown in
    let passed = c.in-Ok.hidden.items in
    let reads = c.in-Ok.ensures.disk in
    let holds = shown_without (hidden_of shown) passed (state_chosen shown) (D.state disk) (c.in-Ok.ensures.shown h) (c.in-Ok.ensures.hidden h) in
    found_moved (D.page_count disk) (D.page_count (chosen_below shown)) (without_hidden passed (seen (D.state disk))) (seen (state_chosen shown)) c.in-Ok-find_with_sections.found.made.items c.in-Ok-find_with_sections.found.store.opening reads.pages holds (c.in-Ok-find_with_sections.ensures.opening (reads.honesty.0 h))

pub returns-in-Ok-find_with_sections-clause-hidden : goal.returns-in-Ok-find_with_sections-clause-hidden
returns-in-Ok-find_with_sections-clause-hidden g c = λ h.
    let D = g.D.PageDisk in
    let disk = c.args.disk in
    let passed = c.in-Ok.hidden.items in
    subst (λ (l : List ℕ). AreOfStore (D.page_count disk) l passed (seen (D.state disk))) (c.in-Ok.ensures.hidden h) (c.in-Ok.ensures.halves h)
