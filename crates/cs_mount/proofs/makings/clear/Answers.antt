use Rattle.std.proofs.Common.{◌∙◌, ◌-◌, List, ap, refl, subst, arith}
use Rattle.cs_disk.specs.Disk.{Write}
use Rattle.cs_frame.proofs.GeometryLaws.{pages_on_device}
use Rattle.cs_mount.specs.Makings.{LeavesSome, after_writes, clearing, zero_page}
use Rattle.cs_mount.specs.StorePairs.{pages_of}
use Rattle.cs_mount.proofs.Laying.{and_flush, flush_made}
use Rattle.cs_mount.proofs.NewPages.{two_are}
use Rattle.cs_mount.proofs.makings.clear.Goals as goal

pub write_two-requires-clause-first : goal.write_two-requires-clause-first
write_two-requires-clause-first g c =
    let d = c.args.geometry in
    let on = pages_on_device d.format d.extents d.pages d.sections c.requires.geometry in
    omega (arith, on, c.requires.sized)

pub write_two-requires-clause-second : goal.write_two-requires-clause-second
write_two-requires-clause-second g c =
    let d = c.args.geometry in
    let on = pages_on_device d.format d.extents d.pages d.sections c.requires.geometry in
    omega (arith, on, c.requires.sized, c.device_pages-last.ensures)

pub returns-in-Ok-clause-made : goal.returns-in-Ok-clause-made
returns-in-Ok-clause-made g c = λ h.
    let s = g.D.PageDisk.state c.args.disk.now in
    let same = two_are 0 (c.device_pages-last.result - 1) 0 (pages_of c.args.geometry - 1) zero_page zero_page refl (ap (λ n. n - 1) c.device_pages-last.ensures) refl in
    flush_made c.flush.result (g.D.PageDisk.state c.write_two.new.disk) (g.D.PageDisk.state c.flush.new.self) (after_writes s (clearing c.args.geometry)) (c.in-Ok.ensures.written h ∙ ap (after_writes s) same) (c.flush.ensures.ok (c.write_two.ensures.honest.0 h))

pub returns-in-Ok-clause-some : goal.returns-in-Ok-clause-some
returns-in-Ok-clause-some g c = λ h.
    let D = g.D.PageDisk in
    let disk = c.args.disk.now in
    let mid = c.write_two.new.disk in
    let there = c.write_two.ensures.honest.0 h in
    let same = two_are 0 (c.device_pages-last.result - 1) 0 (pages_of c.args.geometry - 1) zero_page zero_page refl (ap (λ n. n - 1) c.device_pages-last.ensures) refl in
    and_flush D c.flush.result disk mid c.flush.new.self (clearing c.args.geometry) (subst (λ (l : List Write). LeavesSome D disk mid l) same (c.write_two.ensures.some h)) (c.in-Ok.ensures.written h ∙ ap (after_writes (D.state disk)) same)
    (c.flush.ensures.time there) (c.flush.ensures.ok there) (c.flush.ensures.err there)

pub returns-in-Err-clause-some : goal.returns-in-Err-clause-some
returns-in-Err-clause-some g c = λ h.
    let same = two_are 0 (c.device_pages-last.result - 1) 0 (pages_of c.args.geometry - 1) zero_page zero_page refl (ap (λ n. n - 1) c.device_pages-last.ensures) refl in
    subst (λ (l : List Write). LeavesSome g.D.PageDisk c.args.disk.now c.write_two.new.disk l) same (c.write_two.ensures.some h)
