use Rattle.cs_mount.specs.Makings.{halves_up_to}
use Rattle.cs_mount.proofs.Laying.{and_flush}
use Rattle.cs_mount.proofs.makings.lay_others.Goals as goal

pub returns-in-Ok-clause-some : goal.returns-in-Ok-clause-some
returns-in-Ok-clause-some g c = λ h.
    let there = c.write_others.ensures.honest.0 h in
    and_flush g.D.PageDisk c.flush.result c.args.disk.now c.write_others.new.disk c.flush.new.self (halves_up_to c.args.geometry c.args.geometry.sections) (c.write_others.ensures.some h) (c.in-Ok.ensures.written h) (c.flush.ensures.time there) (c.flush.ensures.ok there) (c.flush.ensures.err there)
