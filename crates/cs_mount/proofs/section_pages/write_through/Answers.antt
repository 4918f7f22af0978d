use Rattle.std.proofs.Common.{[], ◌∷◌}
use Rattle.cs_mount.proofs.Laying.{and_flush, one_write}
use Rattle.cs_mount.proofs.section_pages.write_through.Goals as goal

pub returns-in-Ok-clause-some : goal.returns-in-Ok-clause-some
returns-in-Ok-clause-some g c = λ h.
    let D = g.D.PageDisk in
    let disk = c.args.disk.now in
    let mid = c.write.new.self in
    let writes = (c.args.number, c.args.bytes.now) ∷ [] in
    let there = c.write.ensures.honest.0 h in
    and_flush D c.flush.result disk mid c.flush.new.self writes
    (one_write D disk mid c.args.number c.args.bytes.now (λ image left. g.met.D.PageDisk.only_now disk image h left) (c.write.ensures.time h) (c.write.ensures.fault h))
    (c.in-Ok.ensures.ok h) (c.flush.ensures.time there) (c.flush.ensures.ok there) (c.flush.ensures.err there)

pub returns-in-Err-clause-some : goal.returns-in-Err-clause-some
returns-in-Err-clause-some g c = λ h.
    one_write g.D.PageDisk c.args.disk.now c.write.new.self c.args.number c.args.bytes.now (λ image left. g.met.D.PageDisk.only_now c.args.disk.now image h left) (c.write.ensures.time h) (c.write.ensures.fault h)
