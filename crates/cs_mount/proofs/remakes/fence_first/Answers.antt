use Rattle.cs_mount.specs.Remaking.{fencing}
use Rattle.cs_mount.proofs.Laying.{and_flush}
use Rattle.cs_mount.proofs.remakes.fence_first.Goals as goal

pub returns-in-Ok-clause-some : goal.returns-in-Ok-clause-some
returns-in-Ok-clause-some g c = λ h.
    let there = c.fence_all.ensures.honest.0 h in
    and_flush g.D.PageDisk c.flush.result c.args.disk.now c.fence_all.new.disk c.flush.new.self (fencing c.args.pages.now) (c.fence_all.ensures.some h) (c.in-Ok.ensures.fenced h) (c.flush.ensures.time there) (c.flush.ensures.ok there) (c.flush.ensures.err there)
