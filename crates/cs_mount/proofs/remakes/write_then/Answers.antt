use Rattle.cs_mount.proofs.Laying.{and_flush}
use Rattle.cs_mount.proofs.remakes.write_then.Goals as goal

pub returns-in-Ok-clause-some : goal.returns-in-Ok-clause-some
returns-in-Ok-clause-some g c = λ h.
    let there = c.write_all.ensures.honest.0 h in
    and_flush g.D.PageDisk c.flush.result c.args.disk.now c.write_all.new.disk c.flush.new.self c.args.pages.now (c.write_all.ensures.some h) (c.in-Ok.ensures.written h) (c.flush.ensures.time there) (c.flush.ensures.ok there) (c.flush.ensures.err there)
