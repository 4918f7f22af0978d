use Rattle.cs_mount.specs.Makings.{both_halves}
use Rattle.cs_mount.proofs.Laying.{and_flush}
use Rattle.cs_mount.proofs.makings.lay_first.Goals as goal

pub returns-in-Ok-clause-some : goal.returns-in-Ok-clause-some
returns-in-Ok-clause-some g c = λ h.
    let there = c.write_section.ensures.honest.0 h in
    and_flush g.D.PageDisk c.flush.result c.args.disk.now c.write_section.new.disk c.flush.new.self (both_halves c.args.geometry 0) (c.write_section.ensures.some h) (c.in-Ok.ensures.written h) (c.flush.ensures.time there) (c.flush.ensures.ok there) (c.flush.ensures.err there)
