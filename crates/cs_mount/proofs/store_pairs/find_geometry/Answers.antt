use Rattle.cs_disk.proofs.OnlyRead.{reads_on}
use Rattle.cs_mount.proofs.store_pairs.find_geometry.Goals as goal

pub returns-in-Ok-None-clause-disk : goal.returns-in-Ok-None-clause-disk
returns-in-Ok-None-clause-disk g c = reads_on g.D.PageDisk c.args.disk.now c.two_stores.new.disk c.find_said.new.disk c.two_stores.ensures.disk c.find_said.ensures.disk
