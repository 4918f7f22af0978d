use Rattle.std.proofs.Common.{ap, refl, subst, sym, ◌∙◌}
use Rattle.cs_disk.proofs.Images.{length-applied}
use Rattle.cs_disk.specs.Disk.{seen}
use Rattle.cs_twin.specs.Paired.{disk_below, left_as_shown, state_shown}
use Rattle.cs_mount.specs.Older.{root_found}
use Rattle.cs_mount.proofs.Aged.{aged_behind, older_left, root_is}
use Rattle.cs_mount.proofs.older.show_older.Goals as goal

pub returns-in-Ok-clause-shown : goal.returns-in-Ok-clause-shown
returns-in-Ok-clause-shown g c = λ h some.
    let D = g.D.PageDisk in
    let disk = c.args.disk in
    let it = c.new.result in
    aged_behind (D.page_count disk) (D.page_count disk) (D.state disk) (D.state disk) (state_shown it.disk) c.args.geometry it.geometry c.newest_root-root.result it.root c.in-Ok.found.items
    c.extents.ensures.geometry some c.requires.sized (g.met.D.PageDisk.sized disk h) c.requires.some refl refl (c.in-Ok.ensures.findings h) (c.newest_root-root.ensures ∙ ap root_found c.deref.ensures.value) c.new.ensures.geometry c.new.ensures.root
    (ap (λ p. state_shown p) c.new.ensures.below ∙ c.in-Ok.ensures.shown h)

pub returns-in-Ok-clause-unwritten : goal.returns-in-Ok-clause-unwritten
returns-in-Ok-clause-unwritten g c = λ h. ap (λ p. g.D.PageDisk.state (disk_below p)) c.new.ensures.below ∙ c.in-Ok.ensures.state h

pub returns-in-Ok-clause-left : goal.returns-in-Ok-clause-left
returns-in-Ok-clause-left g c = λ h some left past.
    let D = g.D.PageDisk in
    let disk = c.args.disk in
    let n = D.page_count disk in
    let s = D.state disk in
    let it = c.new.result in
    let root = c.new.ensures.root ∙ root_is n (seen s) c.args.geometry c.in-Ok.found.items c.newest_root-root.result c.extents.ensures.geometry (sym some) c.requires.sized (length-applied s.durable s.volatile ∙ g.met.D.PageDisk.sized disk h)
    c.requires.some (c.in-Ok.ensures.findings h) (c.newest_root-root.ensures ∙ ap root_found c.deref.ensures.value) in
    let below = c.in-Ok.ensures.left h past.0 (subst (λ (p : _). left_as_shown p (D.moment disk) past.0) c.new.ensures.below past.1) in
    (below.0, below.1, older_left n (seen s) c.args.geometry it.geometry it.root past.0 below.0 left (sym some) c.new.ensures.geometry root past.2 below.2)
