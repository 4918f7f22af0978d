use Rattle.cs_disk.specs.Disk.{page, seen}
use Rattle.cs_mount.proofs.First.{there_where_whole}
use Rattle.cs_mount.proofs.store_pairs.holds_superblock.Goals as goal

pub returns-in-Ok-clause-holds : goal.returns-in-Ok-clause-holds
returns-in-Ok-clause-holds g c = λ h. there_where_whole (page (seen (g.D.PageDisk.state c.args.disk.now)) 0) c.in-Ok.first c.is_some.result (c.in-Ok.ensures.first h) c.is_some.ensures
