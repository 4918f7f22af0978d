use Rattle.cs_disk.proofs.OnlyRead.{reads_on}
use Rattle.cs_mount.proofs.store_pairs.find_one.Goals as goal

pub returns-in-Ok-clause-disk : goal.returns-in-Ok-clause-disk
returns-in-Ok-clause-disk g c = reads_on g.D.PageDisk c.args.disk.now c.two_stores.new.disk c.find_said.new.disk c.two_stores.ensures.disk c.find_said.ensures.disk

pub returns-in-Err-find_said-clause-disk : goal.returns-in-Err-find_said-clause-disk
returns-in-Err-find_said-clause-disk g c = reads_on g.D.PageDisk c.args.disk.now c.two_stores.new.disk c.find_said.new.disk c.two_stores.ensures.disk c.find_said.ensures.disk
