use Rattle.cs_disk.specs.Disk.{MayLeave, written}
use Rattle.cs_disk.proofs.Moments.{flushes_or_not}
use Rattle.cs_twin.proofs.Mending.{write_leaves}
use Rattle.cs_twin.proofs.findings.write_through.Goals as goal

pub returns-in-Ok-clause-crash : goal.returns-in-Ok-clause-crash
returns-in-Ok-clause-crash g c = λ h.
    let D = g.D.PageDisk in
    let disk = c.args.disk.now in
    let later = c.write.ensures.honest.0 h in
    (flushes_or_not D.state D.moment D.left_since c.flush.result disk c.write.new.self c.flush.new.self (MayLeave (written (D.state disk) c.args.number c.args.bytes.now))
    (write_leaves D.state D.moment D.left_since disk c.write.new.self c.args.number c.args.bytes.now (λ image left. g.met.D.PageDisk.only_now disk image h left) (c.write.ensures.time h) (c.write.ensures.fault h))
    (c.flush.ensures.time later) (c.flush.ensures.ok later) (c.flush.ensures.err later)).any_moment

pub returns-in-Err-clause-crash : goal.returns-in-Err-clause-crash
returns-in-Err-clause-crash g c = λ h.
    let D = g.D.PageDisk in
    let disk = c.args.disk.now in
    (write_leaves D.state D.moment D.left_since disk c.write.new.self c.args.number c.args.bytes.now (λ image left. g.met.D.PageDisk.only_now disk image h left) (c.write.ensures.time h) (c.write.ensures.fault h)).any_moment
