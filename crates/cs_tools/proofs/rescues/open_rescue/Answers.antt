use Rattle.std.proofs.Common.{◌∙◌, ◌≡◌, ◌⊎◌, ℕ, ap, inr, subst, sym}
use Rattle.cs_chunk.specs.Reads.{IsNoAnswer}
use Rattle.cs_disk.specs.Disk.{Image, Rises, flushed, page, seen}
use Rattle.cs_twin.specs.Paired.{disk_below, state_shown}
use Rattle.cs_mount.specs.Showing.{shown_on}
use Rattle.cs_salvage.specs.Rescued.{IsRescued, IsWhyNotRescued}
use Rattle.cs_tools.proofs.Rescuing.{no_store, of_pairs, of_rescue, rescued_by, rises_below}
use Rattle.cs_tools.proofs.rescues.open_rescue.Goals as goal

pub returns-in-Ok-open-clause-found : goal.returns-in-Ok-open-clause-found
returns-in-Ok-open-clause-found g c = λ h.
    let D = g.D.PageDisk in
    let disk = c.args.disk in
    let paired = c.in-Ok.paired in
    let f = c.in-Ok-open.rescue.found in
    let honest = D.honest disk in
    let image = shown_on (D.page_count disk) (seen (D.state disk)) in
    subst (λ (n : ℕ). IsRescued honest n (page image) f) c.in-Ok.ensures.pages
    (subst (λ (i : Image). IsRescued honest (D.page_count (disk_below paired)) (page i) f) (ap seen (c.in-Ok.ensures.shown h))
    (rescued_by (D.honest (disk_below paired)) honest c.in-Ok.ensures.honest.0 (D.page_count (disk_below paired)) (page (seen (state_shown paired))) f c.in-Ok-open.ensures.found))

pub returns-in-Ok-open-clause-shown : goal.returns-in-Ok-open-clause-shown
returns-in-Ok-open-clause-shown g c = λ h. c.in-Ok-open.ensures.disk.same (c.in-Ok.ensures.honest.0 h) ∙ c.in-Ok.ensures.shown h

pub returns-in-Err-open-clause-why : goal.returns-in-Err-open-clause-why
returns-in-Err-open-clause-why g c = λ h.
    let D = g.D.PageDisk in
    let disk = c.args.disk in
    let r = c.in-Err-open.refusal in
    of_rescue
    (subst (λ (n : ℕ). IsNoAnswer r ⊎ IsWhyNotRescued n (page (shown_on (D.page_count disk) (seen (D.state disk)))) r) c.in-Ok.ensures.pages
    (subst (λ (i : Image). IsNoAnswer r ⊎ IsWhyNotRescued (D.page_count (disk_below c.in-Ok.paired)) (page i) r) (ap seen (c.in-Ok.ensures.shown h)) (c.in-Err-open.ensures.why (c.in-Ok.ensures.honest.0 h))))

pub returns-in-Ok-open-clause-unwritten : goal.returns-in-Ok-open-clause-unwritten
returns-in-Ok-open-clause-unwritten g c = λ h. c.in-Ok-open.ensures.disk.device (c.in-Ok.ensures.honest.0 h) ∙ c.in-Ok.ensures.state h

pub returns-in-Err-open-clause-unwritten : goal.returns-in-Err-open-clause-unwritten
returns-in-Err-open-clause-unwritten g c = λ h.
    let D = g.D.PageDisk in
    let disk = c.args.disk in
    subst (λ (below : _). (D.state below ≡ D.state disk) ⊎ (D.state below ≡ flushed (D.state disk))) (sym c.into_disk.ensures)
    (inr (c.in-Err-open.ensures.disk.device (c.in-Ok.ensures.honest.0 h) ∙ c.in-Ok.ensures.state h))

pub returns-in-Err-clause-why : goal.returns-in-Err-clause-why
returns-in-Err-clause-why g c = λ h. of_pairs (c.in-Err.ensures.why h)

pub returns-in-Ok-open-clause-two : goal.returns-in-Ok-open-clause-two
returns-in-Ok-open-clause-two g c = λ h two. absurd (two (c.in-Ok.ensures.one h))

pub returns-in-Err-open-clause-two : goal.returns-in-Err-open-clause-two
returns-in-Err-open-clause-two g c = λ h two. absurd (two (c.in-Ok.ensures.one h))

pub returns-in-Err-clause-two : goal.returns-in-Err-clause-two
returns-in-Err-clause-two g c = λ h two. no_store (c.in-Err.ensures.why h)

pub returns-in-Err-open-clause-cause : goal.returns-in-Err-open-clause-cause
returns-in-Err-open-clause-cause g c is =
    let D = g.D.PageDisk in
    let paired = c.in-Ok.paired in
    let refused = c.in-Err-open.paired in
    let unrefused = (c.in-Err-open.ensures.disk.sound c.in-Ok.ensures.sound).1 in
    subst (λ below. Rises (D.failure_count c.args.disk) (D.failure_count below)) (sym c.into_disk.ensures)
    (rises_below (D.failure_count c.args.disk) (D.failure_count paired.disk) (D.failure_count refused.disk) paired.notes.refused refused.notes.refused c.in-Ok.ensures.failures c.in-Ok.ensures.refusals unrefused (c.in-Err-open.ensures.cause is))
