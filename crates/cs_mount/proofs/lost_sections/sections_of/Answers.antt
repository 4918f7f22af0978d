use Rattle.cs_disk.proofs.OnlyRead.{reads_on}
use Rattle.cs_disk.specs.Disk.{State, page, seen}
use Rattle.cs_mount.specs.MadeSections.{IsNamedBy}
use Rattle.cs_mount.proofs.MadeListed.{all_done}
use Rattle.std.proofs.Common.{◌∙◌, ◌≡◌, ◌⊎◌, ⊎_elim, ap, inl, subst, sym}
use Rattle.cs_core.specs.cs_chunk.Reads.{IsNoAnswer}
use Rattle.cs_disk.proofs.Images.{length-applied}
use Rattle.cs_refusal.specs.declared.refusals.Refusal.TheVariants.{WornOut}
use Rattle.cs_mount.specs.MadeSections.{HasFrames, IsOneWorn}
use Rattle.cs_mount.proofs.MadeWhy.{frames_there, if_refused, root_there, same_listed}
use Rattle.cs_mount.proofs.lost_sections.sections_of.Goals as goal

pub returns-in-Err-read_named-clause-disk : goal.returns-in-Err-read_named-clause-disk
returns-in-Err-read_named-clause-disk g c = reads_on g.D.PageDisk c.args.disk.now c.read_root.new.disk c.read_named.new.disk c.read_root.ensures.disk c.read_named.ensures.disk

pub returns-clause-disk : goal.returns-clause-disk
returns-clause-disk g c = reads_on g.D.PageDisk c.args.disk.now c.read_named.new.disk c.list_sections.new.disk
    (reads_on g.D.PageDisk c.args.disk.now c.read_root.new.disk c.read_named.new.disk c.read_root.ensures.disk c.read_named.ensures.disk) c.list_sections.ensures.disk

pub returns-clause-made : goal.returns-clause-made
returns-clause-made g c = λ h.
    let D = g.D.PageDisk in
    let d = c.args.geometry in
    let one = c.read_root.ensures.disk.honesty.0 h in
    let two = c.read_named.ensures.disk.honesty.0 one in
    let same = c.read_root.ensures.disk.same h in
    let both = c.read_named.ensures.disk.same one ∙ same in
    all_done c.list_sections.result (λ pages. pages.items) d (seen (D.state c.args.disk.now)) (seen (D.state c.read_named.new.disk)) (ap seen both) c.in-Ok.root.version c.in-Ok.root.commands c.in-Ok.root.runs.items c.in-Ok-read_named.places.items
    (c.in-Ok.ensures.root h) (subst (λ (s : State). IsNamedBy d (page (seen s)) c.in-Ok.root.runs.items c.in-Ok-read_named.places.items) same (c.in-Ok-read_named.ensures.named one))
    (c.list_sections.ensures.made two) (c.list_sections.ensures.fit two)

pub returns-in-Err-clause-why : goal.returns-in-Err-clause-why
returns-in-Err-clause-why g c = λ h view n m found has.
    let D = g.D.PageDisk in
    let s = D.state c.args.disk.now in
    let long = length-applied s.durable s.volatile ∙ g.met.D.PageDisk.sized c.args.disk.now h ∙ sym c.requires.sized in
    ⊎_elim (λ none. inl none) (λ fails. absurd (root_there c.args.geometry c.extents.ensures.geometry c.requires.twins (seen s) long view n m found has c.in-Err.refusal fails)) (c.in-Err.ensures.why h)

pub returns-in-Err-read_named-clause-why : goal.returns-in-Err-read_named-clause-why
returns-in-Err-read_named-clause-why g c = λ h view n m found has.
    let D = g.D.PageDisk in
    let d = c.args.geometry in
    let s = D.state c.args.disk.now in
    let long = length-applied s.durable s.volatile ∙ g.met.D.PageDisk.sized c.args.disk.now h ∙ sym c.requires.sized in
    let root = c.in-Ok.root in
    inl (c.in-Err-read_named.ensures.why (c.read_root.ensures.disk.honesty.0 h) view n m found
    (subst (λ (z : State). HasFrames d (page (seen z)) view) (sym (c.read_root.ensures.disk.same h)) (frames_there d c.extents.ensures.geometry c.requires.twins (seen s) long view n m found has))
    (same_listed d c.extents.ensures.geometry c.requires.twins (seen s) long view n m found has root.version root.commands root.runs.items (c.in-Ok.ensures.root h)))

pub returns-clause-why : goal.returns-clause-why
returns-clause-why g c = λ h view n m found has.
    let D = g.D.PageDisk in
    let one = c.read_root.ensures.disk.honesty.0 h in
    let both = c.read_named.ensures.disk.same one ∙ c.read_root.ensures.disk.same h in
    if_refused c.list_sections.result (λ r. IsNoAnswer r ⊎ ((r ≡ WornOut) × IsOneWorn c.args.geometry (seen (D.state c.read_named.new.disk)))) (λ r. IsNoAnswer r ⊎ ((r ≡ WornOut) × IsOneWorn c.args.geometry (seen (D.state c.args.disk.now))))
    (λ r why. subst (λ (z : State). IsNoAnswer r ⊎ ((r ≡ WornOut) × IsOneWorn c.args.geometry (seen z))) both why)
    (c.list_sections.ensures.why (c.read_named.ensures.disk.honesty.0 one))
