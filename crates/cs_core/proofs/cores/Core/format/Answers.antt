use Rattle.std.proofs.Common.{rules, ◌≡◌, ◌∙◌, None, ap, subst, sym}
use Rattle.cs_disk.specs.Disk.{Image, page}
use Rattle.cs_extent.specs.State.{shape}
use Rattle.cs_frame.specs.Formats.{formats_of}
use Rattle.cs_frame.specs.Geometries.{device_pages}
use Rattle.law_machine.specs.Recovery.{Recovers}
use Rattle.cs_core.specs.Stored.{Stored}
use Rattle.cs_core.proofs.Known.{nothing_known}
use Rattle.cs_core.proofs.Starting.{new_core, new_recovers}
use Rattle.cs_core.proofs.cores.Core.format.Goals as goal

pub invariant_of-result : goal.invariant_of-result
invariant_of-result g c =
    let s = c.args.geometry in
    let size : g.D.PageDisk.page_count c.args.disk ≡ device_pages s.format s.extents s.pages s.sections = search rules in
    let started = c.start_store-made in
    let e = c.in-Ok.ensures in
    nothing_known g.D.PageDisk c.none.ensures (new_core g.D.PageDisk started.new.disk (g.D.PageDisk.state c.of.result.value).durable c.in-Ok.store c.new.result.all c.new.result.base _ s.format s.extents s.pages s.sections e.geometry e.made c.new.ensures.all c.new.ensures.base (started.ensures.pages ∙ size)
    (ap (λ d. (g.D.PageDisk.state d).durable) c.of.ensures) (λ h. g.met.D.PageDisk.sized started.new.disk h) (g.D.PageDisk.state c.args.disk) (λ h. e.written (started.ensures.honest.1 h)))

pub returns-in-Ok-clause-start : goal.returns-in-Ok-clause-start
returns-in-Ok-clause-start g c = λ honest.
    let s = c.args.geometry in
    let e = c.in-Ok.ensures in
    subst (λ (i : Image). Recovers (shape c.in-Ok.store.extents) (formats_of (shape c.in-Ok.store.extents)) (page i) 0 (λ id. None)) (sym (ap (λ d. (g.D.PageDisk.state d).durable) c.of.ensures))
    (subst (λ (u : Stored). Recovers (shape u.extents) (formats_of (shape u.extents)) (page (g.D.PageDisk.state c.start_store-made.new.disk).durable) 0 (λ id. None)) (sym e.made)
    (new_recovers s.format s.extents s.pages s.sections e.geometry (g.D.PageDisk.state c.args.disk) (g.D.PageDisk.state c.start_store-made.new.disk) (e.written honest)))
