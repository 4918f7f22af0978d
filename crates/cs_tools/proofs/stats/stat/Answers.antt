use Rattle.cs_tools.proofs.Readable.{has_unreadable, readable}
use Rattle.cs_tools.proofs.stats.stat.Goals as goal

pub returns-in-Ok-clause-readable : goal.returns-in-Ok-clause-readable
returns-in-Ok-clause-readable g c done = readable g.D.PageDisk c.args.core.now c.of-2.new.core c.in-Ok.stats.extents.items c.in-Ok.ensures.extents c.in-Ok.ensures.bounded (c.report.ensures.readable done)

pub returns-in-Ok-clause-unreadable : goal.returns-in-Ok-clause-unreadable
returns-in-Ok-clause-unreadable g c damaged = has_unreadable g.D.PageDisk c.args.core.now c.of-2.new.core c.in-Ok.stats.extents.items c.in-Ok.ensures.extents c.in-Ok.ensures.counted (c.report.ensures.unreadable damaged)
